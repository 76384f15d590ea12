use Rattle.std.proofs.Common.{◌≡◌, ◌-◌, ◌*◌, take}
use Rattle.ppm_read.specs.Raster.{pixels_at, row_at}
use Rattle.ppm_read.proofs.PlainRows.{after}
use Rattle.ppm_read.proofs.plain.plain_row.Given as goal

abbrev pub invariant-loop-x : goal.invariant-loop-x
invariant-loop-x l = after (take (4 * l.x) l.into) (pixels_at l.head l.last (l.head.width - l.x) l.rest) ≡ row_at l.head l.last l.text
