use Rattle.std.proofs.Common.{◌≡◌, ◌*◌, take, get_or}
use Rattle.bmp_read.specs.Pixel.{palette_colour}
use Rattle.bmp_read.specs.Raster.{pixels}
use Rattle.bmp_read.proofs.indexed.write_known8.Given as goal

abbrev pub invariant-loop-x : goal.invariant-loop-x
invariant-loop-x l = take (4 * l.x) l.into ≡ pixels (λ x. palette_colour l.palette l.text (get_or l.row x 0)) l.x
