use Rattle.std.proofs.Common.{◌≡◌, ◌≤◌, ◌+◌}
use Rattle.script_lines.specs.Reading.{ahead}
use Rattle.script_lines.specs.inside.LineView.{reader_of}
use Rattle.script_lines.proofs.SaidScripts.{StillAsks}
use Rattle.script_lines.proofs.reader.ScriptReader.next.Given as goal

abbrev pub invariant-lines : goal.invariant-lines
invariant-lines g l = record {
  same : StillAsks (ahead l.fn.self (g.I.Input.left l.fn.input)) (ahead (reader_of l.self-inside.pieces l.self-inside.lines l.self-inside.line) (g.I.Input.left l.input));
  line : l.self-inside.line ≡ l.fn.self.line;
  last : l.self-inside.line ≤ l.self-inside.lines;
  counted : l.self-inside.lines + l.self-inside.pieces.room ≤ 1048576;
  room : l.self-inside.pieces.room ≤ l.fn.self.room;
  later : g.I.Input.faults l.fn.input ≤ g.I.Input.faults l.input;
}

abbrev pub decreases-lines : goal.decreases-lines
decreases-lines g l = l.self-inside.pieces.room
