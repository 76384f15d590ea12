-- The first rule that a text breaks, by the grammar of Netpbm's ppm(5) and pgm(5): up to which place it
-- is well spelled, and what is wrong after that. The names of what is wrong, and that the first in the
-- order of the text counts, are this project's own.
use Rattle.std.specs.Prelude.{◌≡◌, ℕ, ◌+◌, ◌*◌, ◌<◌, ◌≤◌, ◌⊎◌, Bool, true, false, not, ◌==◌, List, [], ◌∷◌, ◌++◌, length, Ok, Err, Result, ⊤}
use Rattle.std.specs.List.{list_all, flat_map}
use Rattle.std.specs.Str.Parse.{digits_value}
use Rattle.ppm_read.specs.declared.fault.PpmFault.{PpmFault}
use Rattle.ppm_read.specs.declared.fault.PpmFault.TheVariants.{BadMagic, BadNumber, BadSize, BadMaximum, SampleAbove, Truncated}
use Rattle.ppm_read.specs.declared.header.Channels.{Channels}
use Rattle.ppm_read.specs.declared.header.Format.{Format}
use Rattle.ppm_read.specs.declared.header.Format.TheVariants.{Plain, Raw}
use Rattle.ppm_read.specs.declared.header.Head.{Head}
use Rattle.ppm_read.specs.Number.{number_limit, is_white, is_line_end, begins_comment, is_digit, begins_with, is_cut}
use Rattle.ppm_read.specs.Header.{most_maximum, kind_of}
use Rattle.ppm_read.specs.Raster.{channel_count}
use Rattle.ppm_read.specs.Raw.{sample_length}
use Rattle.ppm_read.specs.Spelling.{GapPart, gap_bytes, is_gap_part, IsGap, IsPart, IsHeader, IsSample, AreSamples, IsSpelled}
use Rattle.picture_rows.specs.FullPicture.{FullPicture}

-- more text stands after a number, and begins with no digit
abbrev pub goes_on : List ℕ → Bool
goes_on rest = begins_with (λ c. not (is_digit c)) rest

-- some digits, whatever their value
pub record AreDigits (digits : List ℕ) : Type 0 where
  pub some : 0 < length digits
  pub fit : list_all is_digit digits ≡ true

-- some white bytes
pub record AreWhite (white : List ℕ) : Type 0 where
  pub some : 0 < length white
  pub fit : list_all is_white white ≡ true

-- the end of a text within a gap: nothing, or a comment that no line end stops
abbrev pub IsOpenEnd : List ℕ → Type 0
IsOpenEnd end = (end ≡ []) ⊎ ((bytes : List ℕ) × (end ≡ 35 ∷ bytes)
    × (list_all (λ c. not (is_line_end c)) bytes ≡ true))

-- a gap, or the beginning of one, that runs to the end of the text
pub record IsOpenGap (text : List ℕ) : Type 0 where
  pub parts : List GapPart
  pub end : List ℕ
  pub fit : list_all is_gap_part parts ≡ true
  pub opened : IsOpenEnd end
  pub spelled : text ≡ flat_map gap_bytes parts ++ end

-- what is wrong where a gap and a number are due
pub data PartBreaks (text : List ℕ) : PpmFault → Type 0 where
  ends_in_gap : IsOpenGap text → PartBreaks text Truncated
  ends_in_number : (gap digits : List ℕ) → IsGap gap → AreDigits digits → text ≡ gap ++ digits
      → PartBreaks text Truncated
  no_gap : (c : ℕ) (rest : List ℕ) → is_white c ≡ false → begins_comment c ≡ false → text ≡ c ∷ rest
      → PartBreaks text BadNumber
  no_number : (gap : List ℕ) (c : ℕ) (rest : List ℕ) → IsGap gap → is_white c ≡ false
      → begins_comment c ≡ false → is_digit c ≡ false → text ≡ gap ++ c ∷ rest → PartBreaks text BadNumber
  too_large : (gap digits rest : List ℕ) → IsGap gap → AreDigits digits
      → number_limit ≤ digits_value 10 digits → goes_on rest ≡ true → text ≡ gap ++ (digits ++ rest)
      → PartBreaks text BadNumber

-- the magic number of this kind, and the text after it
pub record HasKind (text : List ℕ) (kind : Channels × Format) (rest : List ℕ) : Type 0 where
  pub digit : ℕ
  pub is_kind : kind_of digit ≡ Ok kind
  pub spelled : text ≡ 80 ∷ digit ∷ rest

-- with the width after it
pub record HasWidth (text : List ℕ) (kind : Channels × Format) (w : ℕ) (rest : List ℕ) : Type 0 where
  pub before : List ℕ
  pub width : List ℕ
  pub has_kind : HasKind text kind before
  pub is_width : IsPart w width
  pub spelled : before ≡ width ++ rest
  pub goes : goes_on rest ≡ true

-- with both sides
pub record HasSides (text : List ℕ) (kind : Channels × Format) (w h : ℕ) (rest : List ℕ) : Type 0 where
  pub before : List ℕ
  pub height : List ℕ
  pub has_width : HasWidth text kind w before
  pub is_height : IsPart h height
  pub spelled : before ≡ height ++ rest
  pub goes : goes_on rest ≡ true

-- with the maximum, where both sides are above 0
pub record HasMaximum (text : List ℕ) (kind : Channels × Format) (m : ℕ) (rest : List ℕ) : Type 0 where
  pub w : ℕ
  pub h : ℕ
  pub before : List ℕ
  pub maximum : List ℕ
  pub has_sides : HasSides text kind w h before
  pub wide : 1 ≤ w
  pub high : 1 ≤ h
  pub is_maximum : IsPart m maximum
  pub spelled : before ≡ maximum ++ rest
  pub goes : goes_on rest ≡ true

-- what may stand after a sample that is not the raster's last, and after one that may be
abbrev pub MayStand : Format → Bool → List ℕ → Type 0
MayStand Plain last rest = (begins_with is_digit rest ≡ false) × (is_cut last rest ≡ false)
MayStand Raw last rest = ⊤

-- what is wrong where a sample is due
pub data SampleBreaks (maximum : ℕ) (last : Bool) (text : List ℕ) : Format → PpmFault → Type 0 where
  bytes_end : length text < sample_length maximum → SampleBreaks maximum last text Raw Truncated
  white_ends : list_all is_white text ≡ true → SampleBreaks maximum last text Plain Truncated
  digits_end : (white digits : List ℕ) → AreWhite white → AreDigits digits → last ≡ false
      → text ≡ white ++ digits → SampleBreaks maximum last text Plain Truncated
  no_white : (c : ℕ) (rest : List ℕ) → is_white c ≡ false → text ≡ c ∷ rest
      → SampleBreaks maximum last text Plain BadNumber
  no_sample : (white : List ℕ) (c : ℕ) (rest : List ℕ) → AreWhite white → is_white c ≡ false
      → is_digit c ≡ false → text ≡ white ++ c ∷ rest → SampleBreaks maximum last text Plain BadNumber
  large_sample : (white digits rest : List ℕ) → AreWhite white → AreDigits digits
      → number_limit ≤ digits_value 10 digits → MayStand Plain last rest → text ≡ white ++ (digits ++ rest)
      → SampleBreaks maximum last text Plain BadNumber
  above : (format : Format) (v : ℕ) (one rest : List ℕ) → IsSample format maximum v one → maximum < v
      → MayStand format last rest → text ≡ one ++ rest → SampleBreaks maximum last text format SampleAbove

-- how many samples a raster has
abbrev pub sample_count : Head → ℕ
sample_count head = channel_count head.channels * head.width * head.height

-- plain samples begin after the maximum, which is a number
abbrev pub BeginsSamples : Format → List ℕ → Type 0
BeginsSamples Plain rest = goes_on rest ≡ true
BeginsSamples Raw rest = ⊤

-- The rules of the header in their order: what is wrong with a text before its raster begins.
pub data HeaderBreaks (text : List ℕ) : PpmFault → Type 0 where
  no_magic : ((kind : Channels × Format) (rest : List ℕ) → HasKind text kind rest → ⊥)
      → HeaderBreaks text BadMagic
  in_width : (fault : PpmFault) (kind : Channels × Format) (rest : List ℕ) → HasKind text kind rest
      → PartBreaks rest fault → HeaderBreaks text fault
  in_height : (fault : PpmFault) (kind : Channels × Format) (w : ℕ) (rest : List ℕ)
      → HasWidth text kind w rest → PartBreaks rest fault → HeaderBreaks text fault
  no_size : (kind : Channels × Format) (w h : ℕ) (rest : List ℕ) → HasSides text kind w h rest
      → (w ≡ 0) ⊎ (h ≡ 0) → HeaderBreaks text BadSize
  in_maximum : (fault : PpmFault) (kind : Channels × Format) (w h : ℕ) (rest : List ℕ)
      → HasSides text kind w h rest → 1 ≤ w → 1 ≤ h → PartBreaks rest fault → HeaderBreaks text fault
  no_maximum : (kind : Channels × Format) (m : ℕ) (rest : List ℕ) → HasMaximum text kind m rest
      → (m ≡ 0) ⊎ (most_maximum < m) → HeaderBreaks text BadMaximum
  no_end : (channels : Channels) (m : ℕ) (rest : List ℕ) → HasMaximum text (channels, Raw) m rest
      → 1 ≤ m → m ≤ most_maximum → begins_with is_white rest ≡ false → HeaderBreaks text BadNumber

-- the header's rules, and then the raster's
pub data Breaks (text : List ℕ) : PpmFault → Type 0 where
  in_header : (fault : PpmFault) → HeaderBreaks text fault → Breaks text fault
  in_raster : (fault : PpmFault) (head : Head) (samples header raster rest : List ℕ) → IsHeader head header
      → BeginsSamples head.format (raster ++ rest) → AreSamples head.format head.maximum samples raster
      → length samples < sample_count head → (0 < length samples → MayStand head.format false rest)
      → text ≡ header ++ (raster ++ rest)
      → SampleBreaks head.maximum (length samples + 1 == sample_count head) rest head.format fault
      → Breaks text fault

-- The text begins with a header of this size, kind and maximum, and the raster begins where the header ends.
pub record HasHeader (text : List ℕ) (head : Head) : Type 0 where
  pub header : List ℕ
  pub rest : List ℕ
  pub is_header : IsHeader head header
  pub begins : BeginsSamples head.format rest
  pub spelled : text ≡ header ++ rest
  pub start : head.raster_start ≡ length header

-- a text has the header that it begins with, or the fault of the first of the header's rules that it breaks
abbrev pub IsHeaderOutcome : List ℕ → Result Head PpmFault → Type 0
IsHeaderOutcome text (Ok head) = HasHeader text head
IsHeaderOutcome text (Err fault) = HeaderBreaks text fault

-- a text has the picture that it spells, or the fault of the first rule that it breaks
abbrev pub IsOutcome : List ℕ → Result FullPicture PpmFault → Type 0
IsOutcome text (Ok picture) = IsSpelled picture text
IsOutcome text (Err fault) = Breaks text fault
