use Rattle.std.proofs.Common.{◌<◌, ◌≤◌, ◌+◌, ◌*◌, ℕ, length, map, sym, ap, ◌∙◌, arith}
use Rattle.std.proofs.lemmas.List.{length-map}
use Rattle.picture_rows.specs.PixelBytes.{scaled}
use Rattle.ppm_read.specs.Raster.{channel_count}
use Rattle.ppm_read.specs.Raw.{raw_samples}
use Rattle.ppm_read.proofs.Pixels.{grey_pixel, colour_pixel, colour_inside}
use Rattle.ppm_read.proofs.RawSamples.{length-raw_samples-le}
use Rattle.ppm_read.proofs.raw.pixel.Goals as goal

pub overflow_mul-x : goal.overflow_mul-x
overflow_mul-x c = omega (arith, colour_inside c.args.channels c.args.x _ c.in-Colour.is c.requires.inside, length-raw_samples-le c.args.scale.maximum c.args.row.now)

pub overflow_mul-x-in-Colour : goal.overflow_mul-x-in-Colour
overflow_mul-x-in-Colour c = omega (arith, colour_inside c.args.channels c.args.x _ c.in-Colour.is c.requires.inside, length-raw_samples-le c.args.scale.maximum c.args.row.now)

pub overflow_add-x : goal.overflow_add-x
overflow_add-x c = omega (arith, colour_inside c.args.channels c.args.x _ c.in-Colour.is c.requires.inside, length-raw_samples-le c.args.scale.maximum c.args.row.now)

pub overflow_mul-x-in-Colour-2 : goal.overflow_mul-x-in-Colour-2
overflow_mul-x-in-Colour-2 c = omega (arith, colour_inside c.args.channels c.args.x _ c.in-Colour.is c.requires.inside, length-raw_samples-le c.args.scale.maximum c.args.row.now)

pub overflow_add-x-in-Colour : goal.overflow_add-x-in-Colour
overflow_add-x-in-Colour c = omega (arith, colour_inside c.args.channels c.args.x _ c.in-Colour.is c.requires.inside, length-raw_samples-le c.args.scale.maximum c.args.row.now)

inside_pixels : (m k : ℕ) (row : Rattle.std.proofs.Common.List ℕ) → k ≤ length (raw_samples m row) → k ≤ length (map (scaled m) (raw_samples m row))
inside_pixels m k row le = omega (arith, length-map (raw_samples m row) (scaled m))

pub returns-in-Grey : goal.returns-in-Grey
returns-in-Grey c =
    grey_pixel c.args.channels (map (scaled c.args.scale.maximum) (raw_samples c.args.scale.maximum c.args.row.now)) c.args.x _ c.in-Grey.is (inside_pixels c.args.scale.maximum (channel_count c.args.channels * (c.args.x + 1)) c.args.row.now c.requires.inside) c.scaled_sample-grey.ensures ∙ sym c.opaque.ensures

pub returns-in-Colour : goal.returns-in-Colour
returns-in-Colour c =
    colour_pixel c.args.channels (map (scaled c.args.scale.maximum) (raw_samples c.args.scale.maximum c.args.row.now)) c.args.x _ _ _ c.in-Colour.is (inside_pixels c.args.scale.maximum (channel_count c.args.channels * (c.args.x + 1)) c.args.row.now c.requires.inside)
    c.scaled_sample-red.ensures c.scaled_sample-green.ensures c.scaled_sample-blue.ensures ∙ sym c.opaque-in-Colour.ensures
