use Rattle.std.proofs.Common.{◌≡◌, ◌≤◌, ◌-◌, length}
use Rattle.std.specs.Io.KnownBytes.{prepend_known, Keeps}
use Rattle.script_lines.specs.inside.LineView.{pieces_of}
use Rattle.script_lines.proofs.pieces.LineReader.next.Given as goal

abbrev pub invariant-pieces : goal.invariant-pieces
invariant-pieces g l = record {
  same : Keeps (prepend_known (pieces_of l.fn.self).pending (g.I.Input.left l.fn.input)) (prepend_known (pieces_of l.self).pending (g.I.Input.left l.input));
  room : l.self.room ≡ l.fn.self.room;
  later : g.I.Input.faults l.fn.input ≤ g.I.Input.faults l.input;
}

abbrev pub decreases-pieces : goal.decreases-pieces
decreases-pieces g l = 2050 - length (pieces_of l.self).pending
