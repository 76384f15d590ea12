use Rattle.std.proofs.Common.{◌≡◌, ◌≤◌, ◌-◌, length, take, Ok}
use Rattle.hex.specs.Hex.{encode_lower}
use Rattle.printed_lines.specs.Printed.{pixels_start}
use Rattle.printed_lines.specs.Writes.{Adds}
use Rattle.printed_lines.proofs.pixels.write_pixels_line.Given as goal

abbrev pub invariant-loop-at : goal.invariant-loop-at
invariant-loop-at g l = record {
  inside : l.at ≤ length l.bytes;
  so_far : Adds g.W.Sink (l.fn.out, pixels_start l.fn.view) (l.out, l.line) (encode_lower (take l.at l.bytes)) (Ok tt);
}

abbrev pub decreases-loop-at : goal.decreases-loop-at
decreases-loop-at g l = length l.bytes - l.at
