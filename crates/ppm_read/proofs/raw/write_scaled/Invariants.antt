use Rattle.std.proofs.Common.{◌≡◌, ◌*◌, ◌++◌, take, drop, map}
use Rattle.picture_rows.specs.PixelBytes.{scaled}
use Rattle.ppm_read.specs.Raster.{channel_count, rgba}
use Rattle.ppm_read.specs.Raw.{raw_samples}
use Rattle.ppm_read.proofs.raw.write_scaled.Given as goal

abbrev pub invariant-loop-x : goal.invariant-loop-x
invariant-loop-x l =
    let s = map (scaled l.scale.maximum) (raw_samples l.scale.maximum l.row) in
    take (4 * l.x) l.into ++ rgba l.channels (drop (channel_count l.channels * l.x) s) ≡ rgba l.channels s
