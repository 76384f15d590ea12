use Rattle.std.proofs.Common.{◌≡◌, ◌*◌, take}
use Rattle.bmp_read.specs.Pixel.{bgr_at}
use Rattle.bmp_read.specs.Raster.{pixels}
use Rattle.bmp_read.proofs.direct.write_bgr24.Given as goal

abbrev pub invariant-loop-x : goal.invariant-loop-x
invariant-loop-x l = take (4 * l.x) l.into ≡ pixels (λ x. bgr_at (3 * x) l.row) l.x
