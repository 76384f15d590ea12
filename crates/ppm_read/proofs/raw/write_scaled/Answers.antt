use Rattle.std.proofs.Common.{map, arith}
use Rattle.std.proofs.lemmas.List.{length-map}
use Rattle.std.proofs.Math.Nat.{mul-le-mul_left}
use Rattle.picture_rows.specs.PixelBytes.{scaled}
use Rattle.ppm_read.specs.Raster.{channel_count}
use Rattle.ppm_read.specs.Raw.{raw_samples}
use Rattle.ppm_read.proofs.Pixels.{row_more, row_all}
use Rattle.ppm_read.proofs.raw.write_scaled.Goals as goal

pub pixel-requires-clause-inside : goal.pixel-requires-clause-inside
pixel-requires-clause-inside c =
    omega (arith, mul-le-mul_left (channel_count c.args.channels) (c.loop-x-test.true), c.requires.row)

pub loop-x-preserved : goal.loop-x-preserved
loop-x-preserved c =
    let s = raw_samples c.args.scale.maximum c.args.row.now in
    row_more c.args.channels (map (scaled c.args.scale.maximum) s) c.loop-x.into c.put_pixel.new.into _ c.loop-x.x
    (omega (arith, length-map s (scaled c.args.scale.maximum), mul-le-mul_left (channel_count c.args.channels) (c.loop-x-test.true), c.requires.row))
    c.put_pixel.ensures c.pixel.ensures c.loop-x.invariant

pub returns : goal.returns
returns c =
    let s = raw_samples c.args.scale.maximum c.args.row.now in
    row_all c.args.channels (map (scaled c.args.scale.maximum) s) c.loop-x.into c.loop-x.x
    (omega (arith, length-map s (scaled c.args.scale.maximum), mul-le-mul_left (channel_count c.args.channels) (c.loop-x-test.false), c.requires.row))
    (omega (arith, c.requires.into)) c.loop-x.invariant
