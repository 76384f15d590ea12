-- What contracts see of a bitmap. Sides, config, allocation and reconfiguring are those of Android's Bitmap
-- (getAllocationByteCount, reconfigure). The number, the order of the rows, the limit on pixels and the
-- spare bytes are this project's own.
use Rattle.std.specs.Prelude.{ℕ, ◌+◌, ◌*◌, ◌≤◌, List, ◌++◌, replicate, take, drop}
use Rattle.std.specs.List.{flat_map}
use Rattle.bitmap_kind.specs.Stored.{pixel_bytes, overwritten}
use Rattle.bitmap_kind.specs.declared.bitmaps.Config.{Config}

-- The stored bytes are rows from the top, and in a row the pixels from the left.
pub record Picture : Type 0 where
  pub width : ℕ
  pub height : ℕ
  pub config : Config
  pub bytes : List ℕ

-- A bitmap's memory is the stored bytes of its picture, and then the spare ones. The allocation is the size
-- of both.
pub record BitmapValue : Type 0 where
  pub number : ℕ
  pub allocation : ℕ
  pub picture : Picture
  pub spare : List ℕ

-- how many bytes a picture of these sides has
abbrev pub stored_size : ℕ → ℕ → Config → ℕ
stored_size width height config = width * height * pixel_bytes config

-- how many stored bytes a picture has
abbrev pub picture_size : Picture → ℕ
picture_size picture = stored_size picture.width picture.height picture.config

-- how many pixels a bitmap may have at most, a limit of this project
abbrev pub pixel_limit : ℕ
pixel_limit = 33554432

-- Both sides are at least 1, and there are no more pixels than a bitmap may have.
pub record IsSize (width height : ℕ) : Type 0 where
  pub wide : 1 ≤ width
  pub high : 1 ≤ height
  pub most : width * height ≤ pixel_limit

-- a size that a bitmap may have, whose stored bytes fit in an allocation
pub record FitsIn (allocation width height : ℕ) (config : Config) : Type 0 where
  pub size : IsSize width height
  pub room : stored_size width height config ≤ allocation

-- where the pixel of a column and a row begins among the stored bytes
abbrev pub pixel_place : Picture → ℕ → ℕ → ℕ
pixel_place picture x y = (y * picture.width + x) * pixel_bytes picture.config

-- that pixel's stored bytes
abbrev pub pixel_at : Picture → ℕ → ℕ → List ℕ
pixel_at picture x y = take (pixel_bytes picture.config) (drop (pixel_place picture x y) picture.bytes)

-- in a row the pixels of these columns, one after the other
abbrev pub pixels_at : Picture → ℕ → List ℕ → List ℕ
pixels_at picture y columns = flat_map (λ x. pixel_at picture x y) columns

-- in a row so many neighbours, from a column on
abbrev pub run_at : Picture → ℕ → ℕ → ℕ → List ℕ
run_at picture x y count =
    take (count * pixel_bytes picture.config) (drop (pixel_place picture x y) picture.bytes)

-- ---- what calls make of a bitmap

-- a picture of these sides whose stored bytes are all 0
abbrev pub blank : ℕ → ℕ → Config → Picture
blank width height config = record {
  width = width;
  height = height;
  config = config;
  bytes = replicate (stored_size width height config) 0;
}

-- a bitmap with other stored bytes, as many
abbrev pub with_bytes : BitmapValue → List ℕ → BitmapValue
with_bytes bitmap bytes = record bitmap { picture = record bitmap.picture { bytes = bytes } }

-- a bitmap with a piece written over its stored bytes, from a place on
abbrev pub with_piece : BitmapValue → ℕ → List ℕ → BitmapValue
with_piece bitmap at piece = with_bytes bitmap (overwritten bitmap.picture.bytes at piece)

-- a bitmap with a piece written from the pixel of a column and a row on
abbrev pub with_pixels : BitmapValue → ℕ → ℕ → List ℕ → BitmapValue
with_pixels bitmap x y piece = with_piece bitmap (pixel_place bitmap.picture x y) piece

-- a picture of these sides whose stored bytes begin a memory
abbrev pub picture_in : List ℕ → ℕ → ℕ → Config → Picture
picture_in memory width height config = record {
  width = width;
  height = height;
  config = config;
  bytes = take (stored_size width height config) memory;
}

-- the same memory, seen with other sides and another config
abbrev pub reconfigured : BitmapValue → ℕ → ℕ → Config → BitmapValue
reconfigured bitmap width height config = record bitmap {
  picture = picture_in (bitmap.picture.bytes ++ bitmap.spare) width height config;
  spare = drop (stored_size width height config) (bitmap.picture.bytes ++ bitmap.spare);
}
