-- One pixel of plain samples, as the code reads it: the same, said of a pixel alone.
use Rattle.std.specs.Prelude.{ℕ, Bool, false, List, [], ◌∷◌, Ok, Result}
use Rattle.ppm_read.specs.declared.fault.PpmFault.{PpmFault}
use Rattle.ppm_read.specs.declared.header.Format.TheVariants.{Plain}
use Rattle.picture_rows.specs.Reading.{◌>>=◌}
use Rattle.picture_rows.specs.PixelBytes.{scaled}
use Rattle.ppm_read.specs.Raster.{sample_at}

-- one sample, as each of the colours
abbrev pub grey_pixel_at : ℕ → Bool → List ℕ → Result (List ℕ × List ℕ) PpmFault
grey_pixel_at maximum last text = do
  grey ← sample_at Plain maximum last text
  Ok (scaled maximum grey.0 ∷ scaled maximum grey.0 ∷ scaled maximum grey.0 ∷ 255 ∷ [], grey.1)

-- red, green and blue
abbrev pub colour_pixel_at : ℕ → Bool → List ℕ → Result (List ℕ × List ℕ) PpmFault
colour_pixel_at maximum last text = do
  red ← sample_at Plain maximum false text
  green ← sample_at Plain maximum false red.1
  blue ← sample_at Plain maximum last green.1
  Ok (scaled maximum red.0 ∷ scaled maximum green.0 ∷ scaled maximum blue.0 ∷ 255 ∷ [], blue.1)
