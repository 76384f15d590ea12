use Rattle.std.proofs.Common.{◌≡◌, ◌*◌, ◌++◌, take, drop}
use Rattle.ppm_read.specs.declared.header.Channels.TheVariants.{Grey}
use Rattle.ppm_read.specs.Raster.{rgba}
use Rattle.ppm_read.proofs.raw.write_grey.Given as goal

abbrev pub invariant-loop-x : goal.invariant-loop-x
invariant-loop-x l = take (4 * l.x) l.into ++ rgba Grey (drop (1 * l.x) l.row) ≡ rgba Grey l.row
