-- The raster, as Netpbm's ppm(5) and pgm(5) have it: the rows come from the top, each from the left, a
-- sample for each grey pixel and three, red, green and blue, for each pixel of colour. That comments do
-- not stand among plain samples, and which fault comes first, is this project's own.
use Rattle.std.specs.Prelude.{ℕ, zero, suc, ◌+◌, ◌*◌, ◌&&◌, ◌==◌, nat_lt, List, [], ◌∷◌, map, if◌then◌else◌, Ok, Err, Some, None, Result, Bool}
use Rattle.ppm_read.specs.declared.fault.PpmFault.{PpmFault}
use Rattle.ppm_read.specs.declared.fault.PpmFault.TheVariants.{SampleAbove, Truncated}
use Rattle.ppm_read.specs.declared.header.Channels.{Channels}
use Rattle.ppm_read.specs.declared.header.Channels.TheVariants.{Grey, Colour}
use Rattle.ppm_read.specs.declared.header.Format.{Format}
use Rattle.ppm_read.specs.declared.header.Format.TheVariants.{Plain, Raw}
use Rattle.ppm_read.specs.declared.header.Head.{Head}
use Rattle.picture_rows.specs.Reading.{◌>>=◌}
use Rattle.picture_rows.specs.RowsLeft.{RowsLeft, with_row}
use Rattle.picture_rows.specs.PixelBytes.{scaled}
use Rattle.ppm_read.specs.Number.{is_white, rest_after, missing_at, begins_with, number_at}

-- a raw sample of one byte
abbrev pub byte_at : List ℕ → Result (ℕ × List ℕ) PpmFault
byte_at [] = Err Truncated
byte_at (b ∷ rest) = Ok (b, rest)

-- a raw sample of two bytes, the high one first
abbrev pub word_at : List ℕ → Result (ℕ × List ℕ) PpmFault
word_at [] = Err Truncated
word_at (high ∷ []) = Err Truncated
word_at (high ∷ low ∷ rest) = Ok (256 * high + low, rest)

-- A plain sample: a number after one or more white bytes. The last one of a raster may end with the text.
abbrev pub plain_at : Bool → List ℕ → Result (ℕ × List ℕ) PpmFault
plain_at last text = if begins_with is_white text then number_at last (rest_after is_white text)
    else Err (missing_at text)

-- a sample as it is spelled: raw ones have one byte where the maximum is below 256, else two
abbrev pub spelled_at : Format → ℕ → Bool → List ℕ → Result (ℕ × List ℕ) PpmFault
spelled_at Plain maximum last text = plain_at last text
spelled_at Raw maximum last text = if nat_lt maximum 256 then byte_at text else word_at text

-- a sample, which is not above the maximum
abbrev pub at_most : ℕ → ℕ × List ℕ → Result (ℕ × List ℕ) PpmFault
at_most maximum sample = if nat_lt maximum sample.0 then Err SampleAbove else Ok sample

-- a sample that keeps to its spelling and its maximum, and the text after it
abbrev pub sample_at : Format → ℕ → Bool → List ℕ → Result (ℕ × List ℕ) PpmFault
sample_at format maximum last text = spelled_at format maximum last text >>= at_most maximum

-- So many samples, one after the other, and the text after them. `last` says that they are the raster's
-- last ones.
abbrev pub samples_at : Format → ℕ → Bool → ℕ → List ℕ → Result (List ℕ × List ℕ) PpmFault
samples_at format maximum last zero text = Ok ([], text)
samples_at format maximum last (suc count) text = do
  sample ← sample_at format maximum (last && count == 0) text
  others ← samples_at format maximum last count sample.1
  Ok (sample.0 ∷ others.0, others.1)

-- how many samples a pixel has
abbrev pub channel_count : Channels → ℕ
channel_count Grey = 1
channel_count Colour = 3

-- pixels of red, green, blue and an alpha of no transparency; grey is the same of each
abbrev pub rgba : Channels → List ℕ → List ℕ
rgba Grey [] = []
rgba Grey (v ∷ rest) = v ∷ v ∷ v ∷ 255 ∷ rgba Grey rest
rgba Colour (r ∷ g ∷ b ∷ rest) = r ∷ g ∷ b ∷ 255 ∷ rgba Colour rest
rgba Colour rest = []

-- so many pixels of a row, and the text after them; `last` says that they are the raster's last ones
unfoldable pub pixels_at : Head → Bool → ℕ → List ℕ → Result (List ℕ × List ℕ) PpmFault
pixels_at head last count text = do
  samples ← samples_at head.format head.maximum last (channel_count head.channels * count) text
  Ok (rgba head.channels (map (scaled head.maximum) samples.0), samples.1)

-- a whole row
abbrev pub row_at : Head → Bool → List ℕ → Result (List ℕ × List ℕ) PpmFault
row_at head last text = pixels_at head last head.width text

-- a row and those below it; or the fault in its place
abbrev pub row_then : ℕ → Result (List ℕ × List ℕ) PpmFault → (List ℕ → RowsLeft PpmFault)
    → RowsLeft PpmFault
row_then width (Ok row) below = with_row row.0 (below row.1)
row_then width (Err fault) below = record { width = width; rows = []; fault = Some fault }

-- so many rows; that a text breaks a rule is found at the row where it does
abbrev pub rows_of : Head → ℕ → List ℕ → RowsLeft PpmFault
rows_of head zero text = record { width = head.width; rows = []; fault = None }
rows_of head (suc height) text = row_then head.width (row_at head (height == 0) text)
    (λ rest. rows_of head height rest)
