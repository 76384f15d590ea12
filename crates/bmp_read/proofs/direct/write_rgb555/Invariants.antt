use Rattle.std.proofs.Common.{◌≡◌, ◌*◌, take}
use Rattle.bmp_read.specs.Pixel.{rgb555}
use Rattle.bmp_read.specs.Bytes.{u16_at}
use Rattle.bmp_read.specs.Raster.{pixels}
use Rattle.bmp_read.proofs.direct.write_rgb555.Given as goal

abbrev pub invariant-loop-x : goal.invariant-loop-x
invariant-loop-x l = take (4 * l.x) l.into ≡ pixels (λ x. rgb555 (u16_at (2 * x) l.row)) l.x
