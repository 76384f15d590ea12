-- The words of a line, and what each may stand for. The language is this project's own; what the words of a
-- load mean is Glide's.
use Rattle.std.specs.Prelude.{ℕ, Bool, not, ◌&&◌, ◌||◌, ◌==◌, nat_le, List, length, get_or, if◌then◌else◌, Some, None, codes}
use Rattle.std.specs.declared.option.Option.{Option}
use Rattle.std.specs.List.{filter, slice_split, list_all}
use Rattle.std.specs.Char.{is_ascii_alphanumeric, is_ascii_digit}
use Rattle.std.specs.Str.{bytes_eq}
use Rattle.std.specs.Str.Parse.{digits_value}
use Rattle.bitmap_kind.specs.declared.bitmaps.Config.{Config}
use Rattle.bitmap_kind.specs.declared.bitmaps.Config.TheVariants as configs
use Rattle.bitmap_kind.specs.declared.bitmaps.Transform.{Transform}
use Rattle.bitmap_kind.specs.declared.bitmaps.Transform.TheVariants as transforms
use Rattle.cache_key.specs.Key.{url_limit, sig_limit, wanted_side_limit}
use Rattle.cache_key.specs.Size.{Size}
use Rattle.script_lines.specs.Limits.{name_limit, level_limit}
use Rattle.script_lines.specs.Options.{◌>>=◌}

-- the parts between spaces that are not empty
abbrev pub words : List ℕ → List (List ℕ)
words line = filter (λ word. not (length word == 0)) (slice_split (λ byte. byte == 32) line)

-- ---- texts

-- a letter, a digit, `_`, `-` or `.`
abbrev pub is_name_byte : ℕ → Bool
is_name_byte byte = is_ascii_alphanumeric byte || byte == 95 || byte == 45 || byte == 46

-- the name of a view: 1 to 32 of these bytes
abbrev pub is_name : List ℕ → Bool
is_name word = not (length word == 0) && nat_le (length word) name_limit && list_all is_name_byte word

-- a url has at most 1,024 bytes and a signature at most 64; neither is empty, since no word is
abbrev pub is_url : List ℕ → Bool
is_url word = nat_le (length word) url_limit

abbrev pub is_sig : List ℕ → Bool
is_sig word = nat_le (length word) sig_limit

-- ---- numbers

-- digits without a leading zero, or `0`
abbrev pub is_whole : List ℕ → Bool
is_whole word =
    not (length word == 0) && list_all is_ascii_digit word
    && (length word == 1 || not (get_or word 0 48 == 48))

-- the whole number that a word spells, where it lies between these two
abbrev pub number_within : (least most : ℕ) → List ℕ → Option ℕ
number_within least most word =
    if is_whole word && nat_le least (digits_value 10 word) && nat_le (digits_value 10 word) most
    then Some (digits_value 10 word)
    else None

-- a wanted side, in pixels
abbrev pub side : List ℕ → Option ℕ
side word = number_within 1 wanted_side_limit word

-- a wanted width and height
abbrev pub sides : List ℕ → List ℕ → Option Size
sides w h = do
  width ← side w
  height ← side h
  Some (width, height)

-- a level of a trim
abbrev pub level : List ℕ → Option ℕ
level word = number_within 0 level_limit word

-- ---- words of a load

-- the words for Glide's transformations
abbrev pub transform_named : List ℕ → Option Transform
transform_named word =
    if bytes_eq word (codes "none") then Some transforms.Nothing
    else if bytes_eq word (codes "fit") then Some transforms.Fit
    else if bytes_eq word (codes "crop") then Some transforms.Crop
    else if bytes_eq word (codes "inside") then Some transforms.Inside
    else None

-- the words for Android's Bitmap.Config
abbrev pub config_named : List ℕ → Option Config
config_named word =
    if bytes_eq word (codes "argb") then Some configs.Argb8888
    else if bytes_eq word (codes "rgb565") then Some configs.Rgb565
    else if bytes_eq word (codes "alpha") then Some configs.Alpha8
    else None
