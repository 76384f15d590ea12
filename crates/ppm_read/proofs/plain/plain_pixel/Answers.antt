use Rattle.std.proofs.Common.{ap, sym, ◌∙◌}
use Rattle.ppm_read.specs.inside.Plain.{grey_pixel_at, colour_pixel_at}
use Rattle.ppm_read.proofs.PlainRows.{pixels_at-grey, pixels_at-colour}
use Rattle.ppm_read.proofs.plain.plain_pixel.Goals as goal

pub returns-in-Grey : goal.returns-in-Grey
returns-in-Grey c = rw (pixels_at-grey c.args.head c.args.last c.args.text.now c.requires.format c.in-Grey.is ∙ ap (λ m. grey_pixel_at m c.args.last c.args.text.now) (sym c.requires.maximum)) c.grey_pixel.ensures

pub returns-in-Colour : goal.returns-in-Colour
returns-in-Colour c = rw (pixels_at-colour c.args.head c.args.last c.args.text.now c.requires.format c.in-Colour.is ∙ ap (λ m. colour_pixel_at m c.args.last c.args.text.now) (sym c.requires.maximum)) c.colour_pixel.ensures
