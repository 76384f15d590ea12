use Rattle.std.proofs.Common.{◌≡◌, ℕ, List, map, sym, ap, ◌∙◌}
use Rattle.ppm_read.specs.declared.header.Channels.{Channels}
use Rattle.ppm_read.specs.declared.header.Channels.TheVariants.{Grey, Colour}
use Rattle.picture_rows.specs.PixelBytes.{scaled}
use Rattle.ppm_read.specs.Raster.{rgba}
use Rattle.ppm_read.specs.Raw.{raw_samples}
use Rattle.ppm_read.proofs.Pixels.{map-scaled-255}
use Rattle.ppm_read.proofs.raw.write_row.Goals as goal

stays : (m : ℕ) (kind channels : Channels) (row into : List ℕ) → m ≡ 255 → channels ≡ kind → into ≡ rgba kind row → into ≡ rgba channels (map (scaled m) (raw_samples m row))
stays m kind channels row into e is written =
    written ∙ sym (ap (rgba kind) (map-scaled-255 row)) ∙ (λ i. rgba (sym is i) (map (scaled (sym e i)) (raw_samples (sym e i) row)))

pub returns-in-Grey : goal.returns-in-Grey
returns-in-Grey c = stays c.args.maximum Grey c.args.channels c.args.row.now _ c.if-maximum-ne255.false c.in-Grey.is c.write_grey.ensures

pub returns-in-Colour : goal.returns-in-Colour
returns-in-Colour c = stays c.args.maximum Colour c.args.channels c.args.row.now _ c.if-maximum-ne255.false c.in-Colour.is c.write_colour.ensures
