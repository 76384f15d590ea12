use Rattle.std.proofs.Common.{◌≡◌, ◌*◌, take}
use Rattle.bmp_read.specs.Pixel.{palette_colour, index4}
use Rattle.bmp_read.specs.Raster.{pixels}
use Rattle.bmp_read.proofs.indexed.write_known4.Given as goal

abbrev pub invariant-loop-x : goal.invariant-loop-x
invariant-loop-x l = take (4 * l.x) l.into ≡ pixels (λ x. palette_colour l.palette l.text (index4 l.row x)) l.x
