use Rattle.std.proofs.Common.{◌≡◌, false, take}
use Rattle.script_lines.specs.inside.Pieces.{has_line_feed}
use Rattle.script_lines.proofs.pieces.line_feed_in.Given as goal

abbrev pub invariant-loop-at : goal.invariant-loop-at
invariant-loop-at l = has_line_feed (take l.at l.bytes) ≡ false
