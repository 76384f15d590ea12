-- How a picture is spelled, by the grammar of Netpbm's ppm(5) and pgm(5). What of it is this project's
-- own, the files of the header's and the raster's definitions say.
use Rattle.std.specs.Prelude.{◌≡◌, ℕ, ◌+◌, ◌*◌, ◌<◌, ◌≤◌, Bool, true, false, not, ◌&&◌, nat_lt, List, [], ◌∷◌, ◌++◌, length, map, Ok, ⊤}
use Rattle.std.specs.List.{list_all, flat_map}
use Rattle.std.specs.Str.Parse.{digits_value}
use Rattle.ppm_read.specs.declared.header.Format.{Format}
use Rattle.ppm_read.specs.declared.header.Format.TheVariants.{Plain, Raw}
use Rattle.ppm_read.specs.declared.header.Head.{Head}
use Rattle.ppm_read.specs.Number.{number_limit, is_white, is_line_end, is_digit, begins_with}
use Rattle.ppm_read.specs.Header.{most_maximum, kind_of}
use Rattle.picture_rows.specs.PixelBytes.{scaled}
use Rattle.ppm_read.specs.Raster.{channel_count, rgba}
use Rattle.picture_rows.specs.FullPicture.{FullPicture}

-- a part of a gap: a white byte, or a comment, which `#` begins, and the line end that stops it
pub data GapPart : Type 0 where
  White : ℕ → GapPart
  Comment : List ℕ → ℕ → GapPart

-- its bytes
abbrev pub gap_bytes : GapPart → List ℕ
gap_bytes (White c) = c ∷ []
gap_bytes (Comment bytes end) = 35 ∷ (bytes ++ end ∷ [])

-- a white byte is one, no line end stands within a comment, and one stops it
abbrev pub is_gap_part : GapPart → Bool
is_gap_part (White c) = is_white c
is_gap_part (Comment bytes end) = list_all (λ c. not (is_line_end c)) bytes && is_line_end end

-- one or more such parts
pub record IsGap (gap : List ℕ) : Type 0 where
  pub parts : List GapPart
  pub some : 0 < length parts
  pub fit : list_all is_gap_part parts ≡ true
  pub spelled : gap ≡ flat_map gap_bytes parts

-- one or more digits, leading zeros allowed
pub record IsNumber (n : ℕ) (digits : List ℕ) : Type 0 where
  pub some : 0 < length digits
  pub fit : list_all is_digit digits ≡ true
  pub value : digits_value 10 digits ≡ n
  pub small : n < number_limit

-- a number of the header, with the gap before it
pub record IsPart (n : ℕ) (part : List ℕ) : Type 0 where
  pub gap : List ℕ
  pub digits : List ℕ
  pub is_gap : IsGap gap
  pub is_number : IsNumber n digits
  pub spelled : part ≡ gap ++ digits

-- the end of the header: one white byte before raw samples, nothing before plain ones
abbrev pub IsEnd : Format → List ℕ → Type 0
IsEnd Plain end = end ≡ []
IsEnd Raw end = (c : ℕ) × (is_white c ≡ true) × (end ≡ c ∷ [])

-- `P`, the digit of the kind, the width, the height, the maximum and the end
pub record IsHeader (head : Head) (header : List ℕ) : Type 0 where
  pub digit : ℕ
  pub width : List ℕ
  pub height : List ℕ
  pub maximum : List ℕ
  pub end : List ℕ
  pub kind : kind_of digit ≡ Ok (head.channels, head.format)
  pub is_width : IsPart head.width width
  pub is_height : IsPart head.height height
  pub is_maximum : IsPart head.maximum maximum
  pub is_end : IsEnd head.format end
  pub wide : 1 ≤ head.width
  pub high : 1 ≤ head.height
  pub low : 1 ≤ head.maximum
  pub most : head.maximum ≤ most_maximum
  pub spelled : header ≡ 80 ∷ digit ∷ (width ++ (height ++ (maximum ++ end)))

-- a plain sample: a number after one or more white bytes
pub record IsPlainSample (v : ℕ) (bytes : List ℕ) : Type 0 where
  pub white : List ℕ
  pub digits : List ℕ
  pub some : 0 < length white
  pub fit : list_all is_white white ≡ true
  pub is_number : IsNumber v digits
  pub spelled : bytes ≡ white ++ digits

-- a raw sample: one byte where the maximum is below 256, else two, the high one first
abbrev pub IsRawSample : Bool → ℕ → List ℕ → Type 0
IsRawSample true v bytes = bytes ≡ v ∷ []
IsRawSample false v bytes = (high : ℕ) × (low : ℕ) × (v ≡ 256 * high + low) × (bytes ≡ high ∷ low ∷ [])

-- a sample in the format's spelling
abbrev pub IsSample : Format → ℕ → ℕ → List ℕ → Type 0
IsSample Plain maximum v bytes = IsPlainSample v bytes
IsSample Raw maximum v bytes = IsRawSample (nat_lt maximum 256) v bytes

-- samples one after the other, none above the maximum
abbrev pub AreSamples : Format → ℕ → List ℕ → List ℕ → Type 0
AreSamples format maximum [] bytes = bytes ≡ []
AreSamples format maximum (v ∷ vs) bytes = (one : List ℕ) × (others : List ℕ)
    × IsSample format maximum v one × (v ≤ maximum) × AreSamples format maximum vs others
    × (bytes ≡ one ++ others)

-- the last number of a plain raster goes on while digits come
abbrev pub MayFollow : Format → List ℕ → Type 0
MayFollow Plain rest = begins_with is_digit rest ≡ false
MayFollow Raw rest = ⊤

-- the text is a header, a sample for each grey pixel and three for each pixel of colour, and then anything
pub record IsSpelled (picture : FullPicture) (text : List ℕ) : Type 0 where
  pub head : Head
  pub samples : List ℕ
  pub header : List ℕ
  pub raster : List ℕ
  pub rest : List ℕ
  pub is_header : IsHeader head header
  pub are_samples : AreSamples head.format head.maximum samples raster
  pub count : length samples ≡ channel_count head.channels * (head.width * head.height)
  pub follows : MayFollow head.format rest
  pub spelled : text ≡ header ++ (raster ++ rest)
  pub width : picture.width ≡ head.width
  pub height : picture.height ≡ head.height
  pub pixels : picture.pixels ≡ rgba head.channels (map (scaled head.maximum) samples)
