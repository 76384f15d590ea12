-- The address of a key, the bytes that stand for its choices in the texts of keys and entries, and the bytes
-- by which the disk cache tells keys apart. Their layout is this project's own, after Glide's
-- `updateDiskCacheKey`.
use Rattle.std.specs.Prelude.{ℕ, List, [], ◌∷◌, ◌++◌, length, codes}
use Rattle.std.specs.Int.{w32, to_le_bytes}
use Rattle.bitmap_kind.specs.declared.bitmaps.Config.{Config}
use Rattle.bitmap_kind.specs.declared.bitmaps.Config.TheVariants.{Argb8888, Rgb565, Alpha8}
use Rattle.bitmap_kind.specs.declared.bitmaps.Transform.{Transform}
use Rattle.bitmap_kind.specs.declared.bitmaps.Transform.TheVariants as transforms
use Rattle.bitmap_kind.specs.declared.bitmaps.Rule.{Rule}
use Rattle.bitmap_kind.specs.declared.bitmaps.Rule.TheVariants.{AtLeast, AtMost}
use Rattle.cache_key.specs.Key.{Key}
use Rattle.cache_key.specs.declared.bytes.Which.{Which}
use Rattle.cache_key.specs.declared.bytes.Which.TheVariants.{SourceBytes, Outcome}

-- where a key's source stands: its url and signature
abbrev pub address_of : Key → List ℕ × List ℕ
address_of key = (key.url, key.sig)

abbrev pub transform_byte : Transform → ℕ
transform_byte transforms.Nothing = 0
transform_byte transforms.Fit = 1
transform_byte transforms.Crop = 2
transform_byte transforms.Inside = 3

abbrev pub config_byte : Config → ℕ
config_byte Argb8888 = 0
config_byte Rgb565 = 1
config_byte Alpha8 = 2

abbrev pub rule_byte : Rule → ℕ
rule_byte AtLeast = 0
rule_byte AtMost = 1

-- ---- key bytes

-- a text behind its length, which is 32 bits with the low byte first
abbrev pub sized : List ℕ → List ℕ
sized text = to_le_bytes w32 (length text) ++ text

-- those of the source at an address
abbrev pub source_bytes : List ℕ × List ℕ → List ℕ
source_bytes address = codes "S" ++ sized address.0 ++ sized address.1

-- how a picture is brought to its size, stored and decoded, a byte each
abbrev pub choice_bytes : Key → List ℕ
choice_bytes key = transform_byte key.transform ∷ config_byte key.config ∷ rule_byte key.rule ∷ []

-- those of an outcome, which is the picture that a load of the key shows
abbrev pub outcome_bytes : Key → List ℕ
outcome_bytes key =
    codes "R" ++ sized key.url ++ sized key.sig
    ++ to_le_bytes w32 key.width
    ++ to_le_bytes w32 key.height
    ++ choice_bytes key

-- those of either of the two that the disk cache keeps of a load
abbrev pub key_bytes_of : Which → Key → List ℕ
key_bytes_of SourceBytes key = source_bytes (address_of key)
key_bytes_of Outcome key = outcome_bytes key
