-- Each pixel of a bitmap by the fields at their places in the text, as the BMP headers of Windows have
-- them: a table of the compression and of the bits of a pixel.
use Rattle.std.specs.Prelude.{◌≡◌, ℕ, ◌+◌, ◌-◌, ◌*◌, ◌/◌, ◌<◌, ◌==◌, nat_le, nat_lt, List, length, drop, slice_index, if◌then◌else◌}
use Rattle.picture_rows.specs.FullPicture.{FullPicture, pixel_of}
use Rattle.bmp_read.specs.declared.format.Palette.{Palette}
use Rattle.bmp_read.specs.Bytes.{u16_at, u32_at}
use Rattle.bmp_read.specs.Header.{side_limit, stored_masks, palette_count}
use Rattle.bmp_read.specs.Pixel.{bgr_at, palette_colour, index1, index4, rgb555, masked_colour}
use Rattle.bmp_read.specs.Rules.{unsigned}

-- the palette, which follows the info header
abbrev pub stored_palette : List ℕ → Palette
stored_palette text = record {
  start = 14 + u32_at 14 text;
  count = palette_count (u16_at 28 text) (u32_at 46 text);
}

-- The table: the pixel in this column of a stored row. With masks (compression 3) a pixel has 16 or 32
-- bits; without, 1, 4 or 8 bits are an index into the palette, and 16, 24 or 32 bits are a colour.
abbrev pub stored_pixel : List ℕ → List ℕ → ℕ → List ℕ
stored_pixel text row x =
    let bits = u16_at 28 text in
    let masks = stored_masks (u32_at 14 text) text in
    let palette = stored_palette text in
    if u32_at 30 text == 3
    then (if bits == 16 then masked_colour masks (u16_at (2 * x) row)
    else masked_colour masks (u32_at (4 * x) row))
    else (if nat_le bits 8
    then (if bits == 1 then palette_colour palette text (index1 row x)
    else (if bits == 4 then palette_colour palette text (index4 row x)
    else palette_colour palette text (slice_index row x)))
    else (if bits == 16 then rgb555 (u16_at (2 * x) row)
    else (if bits == 24 then bgr_at (3 * x) row
    else bgr_at (4 * x) row)))

-- how many rows stand before this one in the file: a height below 0 says that the top row is the first
abbrev pub rows_before : List ℕ → ℕ → ℕ
rows_before text y = if nat_lt (u32_at 22 text) side_limit then unsigned (u32_at 22 text) - 1 - y else y

-- the text from the beginning of the row that has so many rows above it; a row's bytes are a multiple of four
abbrev pub row_from : List ℕ → ℕ → List ℕ
row_from text y =
    let row_length = (u32_at 18 text * u16_at 28 text + 31) / 32 * 4 in
    drop (u32_at 10 text + row_length * rows_before text y) text

-- the picture has the size that the fields say, and each of its pixels is that of the table
pub record IsByTable (text : List ℕ) (picture : FullPicture) : Type 0 where
  pub wide : picture.width ≡ u32_at 18 text
  pub high : picture.height ≡ unsigned (u32_at 22 text)
  pub count : length picture.pixels ≡ 4 * picture.width * picture.height
  pub pixel : (x y : ℕ) → x < picture.width → y < picture.height
      → pixel_of picture x y ≡ stored_pixel text (row_from text y) x
