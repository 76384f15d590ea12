-- The raw form of a picture, in which a result is kept. It is this project's own.
use Rattle.std.specs.Prelude.{◌≡◌, ℕ, ◌+◌, List, [], ◌∷◌, ◌++◌, length, drop, codes, slice_index}
use Rattle.std.specs.Int.{w32, to_le_bytes, from_le_bytes}
use Rattle.bitmap_kind.specs.declared.bitmaps.Config.{Config}
use Rattle.bitmap_kind.specs.Picture.{Picture, IsSize, stored_size}
use Rattle.cache_key.specs.KeyBytes.{config_byte}

-- `GLR1`, the byte of its config, its width and its height as 32 bits with the low byte first, and its
-- stored bytes
abbrev pub raw_text : Picture → List ℕ
raw_text picture =
    codes "GLR1" ++ config_byte picture.config ∷ to_le_bytes w32 picture.width
    ++ to_le_bytes w32 picture.height
    ++ picture.bytes

-- A text is the raw form of a picture, which has a size that a bitmap may have, and all its bytes.
pub record IsRawForm (text : List ℕ) (picture : Picture) : Type 0 where
  pub size : IsSize picture.width picture.height
  pub whole : length picture.bytes ≡ stored_size picture.width picture.height picture.config
  pub spelled : text ≡ raw_text picture

-- how many bytes stand before the stored ones
abbrev pub raw_head_size : ℕ
raw_head_size = 13

-- the picture of this config and these sides whose stored bytes are those of a raw form
abbrev pub raw_picture : Config → ℕ → ℕ → List ℕ → Picture
raw_picture config width height text = record {
  width = width;
  height = height;
  config = config;
  bytes = drop raw_head_size text;
}

-- the picture of the sides and the config of another whose stored bytes are those of a raw form
abbrev pub raw_picture_like : Picture → List ℕ → Picture
raw_picture_like picture text = raw_picture picture.config picture.width picture.height text

-- the side that stands at a place of a text: 32 bits, the low byte first
abbrev pub side_at : ℕ → List ℕ → ℕ
side_at at text = from_le_bytes w32
    (slice_index text at ∷ slice_index text (at + 1) ∷ slice_index text (at + 2) ∷ slice_index text (at + 3)
    ∷ [])

-- so many bytes are those of a picture of these sides and this config, which a bitmap may have
pub record IsRawSize (config : Config) (width height count : ℕ) : Type 0 where
  pub size : IsSize width height
  pub whole : count ≡ stored_size width height config

-- a text is the raw form of one picture at most
abbrev pub RawFormIsOfOnePicture : Type 0
RawFormIsOfOnePicture = (text : List ℕ) (a b : Picture) → IsRawForm text a → IsRawForm text b → a ≡ b
