-- Pixels of a full picture, and samples as bytes. That a share is rounded, halves up, is this project's own.
use Rattle.std.specs.Prelude.{ℕ, ◌+◌, ◌*◌, ◌/◌, List, [], ◌∷◌}
use Rattle.picture_rows.specs.declared.pixel.Rgba.{Rgba}

-- a pixel's bytes
abbrev pub rgba_bytes : Rgba → List ℕ
rgba_bytes pixel = pixel.red ∷ pixel.green ∷ pixel.blue ∷ pixel.alpha ∷ []

-- a sample as a number up to 255: its share of the maximum, rounded, halves up
abbrev pub scaled : ℕ → ℕ → ℕ
scaled maximum sample = (255 * sample + maximum / 2) / maximum
