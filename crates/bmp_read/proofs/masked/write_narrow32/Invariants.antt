use Rattle.std.proofs.Common.{◌≡◌, ◌*◌, take}
use Rattle.bmp_read.specs.Pixel.{masked_colour}
use Rattle.bmp_read.specs.Bytes.{u32_at}
use Rattle.bmp_read.specs.Raster.{pixels}
use Rattle.bmp_read.proofs.masked.write_narrow32.Given as goal

abbrev pub invariant-loop-x : goal.invariant-loop-x
invariant-loop-x l = take (4 * l.x) l.into ≡ pixels (λ x. masked_colour l.masks (u32_at (4 * x) l.row)) l.x
