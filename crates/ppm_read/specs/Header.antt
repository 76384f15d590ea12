-- The header, part by part, as Netpbm's ppm(5) and pgm(5) have it: the magic number, the width, the
-- height and the maximum, with white space or comments between them, and where the samples are raw one
-- white byte. That no comment stands directly before the samples, and which fault comes first, is this
-- project's own.
use Rattle.std.specs.Prelude.{ℕ, ◌-◌, ◌&&◌, ◌==◌, nat_le, nat_lt, List, [], ◌∷◌, length, drop, if◌then◌else◌, Ok, Err, Result, false}
use Rattle.ppm_read.specs.declared.fault.PpmFault.{PpmFault}
use Rattle.ppm_read.specs.declared.fault.PpmFault.TheVariants.{BadMagic, BadSize, BadMaximum}
use Rattle.ppm_read.specs.declared.header.Channels.{Channels}
use Rattle.ppm_read.specs.declared.header.Channels.TheVariants.{Grey, Colour}
use Rattle.ppm_read.specs.declared.header.Format.{Format}
use Rattle.ppm_read.specs.declared.header.Format.TheVariants.{Plain, Raw}
use Rattle.ppm_read.specs.declared.header.Head.{Head}
use Rattle.picture_rows.specs.Reading.{◌>>=◌}
use Rattle.ppm_read.specs.Number.{is_white, missing_at, begins_with, gap_at, number_at}

-- the kinds: `P2` is plain grey, `P3` plain colour, `P5` raw grey and `P6` raw colour
abbrev pub kind_of : ℕ → Result (Channels × Format) PpmFault
kind_of digit = if digit == 50 then Ok (Grey, Plain) else (if digit == 51 then Ok (Colour, Plain)
    else (if digit == 53 then Ok (Grey, Raw) else (if digit == 54 then Ok (Colour, Raw) else Err BadMagic)))

-- the kind that the magic number stands for, and the text after it
abbrev pub magic_at : List ℕ → Result (Channels × Format × List ℕ) PpmFault
magic_at [] = Err BadMagic
magic_at (p ∷ []) = Err BadMagic
magic_at (p ∷ digit ∷ rest) = if p == 80 then kind_of digit >>= (λ kind. Ok (kind.0, kind.1, rest))
    else Err BadMagic

-- a number of the header, which more text follows
abbrev pub part_at : List ℕ → Result (ℕ × List ℕ) PpmFault
part_at text = gap_at text >>= number_at false

-- the width and the height, which are tested when both are read
unfoldable pub size_at : List ℕ → Result (ℕ × ℕ × List ℕ) PpmFault
size_at text = do
  width ← part_at text
  height ← part_at width.1
  if nat_lt 0 width.0 && nat_lt 0 height.0 then Ok (width.0, height.0, height.1) else Err BadSize

-- the greatest maximum of a sample
abbrev pub most_maximum : ℕ
most_maximum = 65535

-- the maximum of a sample
unfoldable pub maximum_at : List ℕ → Result (ℕ × List ℕ) PpmFault
maximum_at text = do
  maximum ← part_at text
  if nat_lt 0 maximum.0 && nat_le maximum.0 most_maximum then Ok maximum else Err BadMaximum

-- the raster: raw samples begin after one white byte, plain ones with the white bytes before the first
abbrev pub raster_at : Format → List ℕ → Result (List ℕ) PpmFault
raster_at Plain text = Ok text
raster_at Raw text = if begins_with is_white text then Ok (drop 1 text) else Err (missing_at text)

-- the size, the kind and the maximum, and where the raster begins
unfoldable pub head_of : List ℕ → Result Head PpmFault
head_of text = do
  kind ← magic_at text
  size ← size_at kind.2
  maximum ← maximum_at size.2
  raster ← raster_at kind.1 maximum.1
  Ok record {
    width = size.0;
    height = size.1;
    channels = kind.0;
    format = kind.1;
    maximum = maximum.0;
    raster_start = length text - length raster;
  }
