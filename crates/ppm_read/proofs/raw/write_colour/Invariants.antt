use Rattle.std.proofs.Common.{◌≡◌, ◌*◌, ◌++◌, take, drop}
use Rattle.ppm_read.specs.declared.header.Channels.TheVariants.{Colour}
use Rattle.ppm_read.specs.Raster.{rgba}
use Rattle.ppm_read.proofs.raw.write_colour.Given as goal

abbrev pub invariant-loop-x : goal.invariant-loop-x
invariant-loop-x l = take (4 * l.x) l.into ++ rgba Colour (drop (3 * l.x) l.row) ≡ rgba Colour l.row
