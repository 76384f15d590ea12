use Rattle.std.proofs.Common.{◌-◌, ◌≡◌, Some, Ok, take}
use Rattle.bitmap_kind.specs.Picture.{Picture}
use Rattle.hex.specs.Hex.{encode_lower}
use Rattle.printed_lines.specs.Printed.{pixels_start}
use Rattle.printed_lines.specs.Writes.{Adds}
use Rattle.engine_shared.specs.Caller.{picture_held}
use Rattle.glide_run.proofs.Telling.{Looking}
use Rattle.glide_run.proofs.looks.write_pixels.Given as goal

abbrev pub invariant-loop-at : goal.invariant-loop-at
invariant-loop-at g l = record {
  looking : Looking l.views l.load l.length l.at (g.E.EngineCalls.caller l.fn.engine) (g.E.EngineCalls.caller l.engine);
  so_far : (picture : Picture) → picture_held (g.E.EngineCalls.caller l.fn.engine) l.load.number ≡ Some picture
      → Adds g.W.Sink (l.fn.out, pixels_start l.fn.name) (l.out, l.line) (encode_lower (take l.at picture.bytes)) (Ok tt);
}

abbrev pub decreases-loop-at : goal.decreases-loop-at
decreases-loop-at g l = l.length - l.at
