-- The headers of a Windows bitmap: the file header, BITMAPFILEHEADER, of 14 bytes, and after it an info
-- header, which is BITMAPINFOHEADER, BITMAPV4HEADER or BITMAPV5HEADER. A place is counted in bytes from
-- the text's beginning. Which rules there are, their order, that masks are runs of 1 bits and that all
-- other fields are ignored, is this project's own.
use Rattle.std.specs.Prelude.{ℕ, ◌+◌, ◌-◌, ◌*◌, ◌/◌, ◌^◌, ◌<◌, ◌≤◌, Bool, false, not, ◌&&◌, ◌||◌, ◌==◌, nat_le, nat_lt, List, [], ◌∷◌, length, if◌then◌else◌, Ok, Err, Result}
use Rattle.std.specs.Int.{w32, trailing_zeros, is_power_of_two}
use Rattle.bmp_read.specs.declared.fault.BmpFault.{BmpFault}
use Rattle.bmp_read.specs.declared.fault.BmpFault.TheVariants.{BadMagic, BadHeader, BadSize, Compressed, BadDepth, BadMasks, Truncated}
use Rattle.bmp_read.specs.declared.header.Head.{Head}
use Rattle.bmp_read.specs.declared.header.RowOrder.{RowOrder}
use Rattle.bmp_read.specs.declared.header.RowOrder.TheVariants.{TopFirst, BottomFirst}
use Rattle.bmp_read.specs.declared.format.Format.{Format}
use Rattle.bmp_read.specs.declared.format.Format.TheVariants.{Indexed1, Indexed4, Indexed8, Rgb555, Bgr24, Bgr32, Masked16, Masked32}
use Rattle.bmp_read.specs.declared.format.Masks.{Masks}
use Rattle.bmp_read.specs.declared.format.Palette.{Palette}
use Rattle.picture_rows.specs.Reading.{◌>>=◌}
use Rattle.bmp_read.specs.Bytes.{u16_at, u32_at}

-- `BM`
abbrev pub begins_bm : List ℕ → Bool
begins_bm [] = false
begins_bm (b ∷ []) = false
begins_bm (b ∷ m ∷ rest) = b == 66 && m == 77

-- BITMAPINFOHEADER, BITMAPV4HEADER and BITMAPV5HEADER have these lengths.
abbrev pub is_info_size : ℕ → Bool
is_info_size size = size == 40 || size == 108 || size == 124

-- The info header's length, which is its first field. The text has both headers whole, and one plane.
unfoldable pub info_size_at : List ℕ → Result ℕ BmpFault
info_size_at text =
    if not (begins_bm text) then Err BadMagic
    else (if nat_lt (length text) 18 then Err Truncated
    else (if not (is_info_size (u32_at 14 text)) then Err BadHeader
    else (if nat_lt (length text) (14 + u32_at 14 text) then Err Truncated
    else (if not (u16_at 26 text == 1) then Err BadHeader
    else Ok (u32_at 14 text)))))

-- A side stays below 2 to the 31st: up to there a number of 32 bits in two's complement stands for itself.
abbrev pub side_limit : ℕ
side_limit = 2 ^ 31

-- a side is from 1 to 2,147,483,647
abbrev pub IsSide : ℕ → Type 0
IsSide n = (1 ≤ n) × (n < side_limit)

-- both sides are
pub record HasSides (head : Head) : Type 0 where
  pub wide : IsSide head.width
  pub high : IsSide head.height

-- The width, the height without its sign, and the order of the rows. Both are signed numbers of 32 bits
-- in two's complement: below 2 to the 31st a number stands for itself, and from there on for 2 to the
-- 32nd less. The width is above 0. The height is not 0 and not the least number. Where it is below 0, the
-- first row in the file is the top one, and else the bottom one.
unfoldable pub size_at : List ℕ → Result (ℕ × ℕ × RowOrder) BmpFault
size_at text =
    let width = u32_at 18 text in
    let height = u32_at 22 text in
    if width == 0 || nat_le side_limit width then Err BadSize
    else (if height == 0 || height == side_limit then Err BadSize
    else (if nat_lt height side_limit then Ok (width, height, BottomFirst)
    else Ok (width, 2 ^ 32 - height, TopFirst)))

-- The bits of a pixel. With masks, which compression 3 says, there are 16 or 32.
abbrev pub is_depth : ℕ → ℕ → Bool
is_depth compression bits = bits == 16 || bits == 32
    || (compression == 0 && (bits == 1 || bits == 4 || bits == 8 || bits == 24))

-- the compression, 0 or 3 (BI_RGB and BI_BITFIELDS), and the bits of a pixel
unfoldable pub depth_at : List ℕ → Result (ℕ × ℕ) BmpFault
depth_at text =
    let compression = u32_at 30 text in
    let bits = u16_at 28 text in
    if not (compression == 0 || compression == 3) then Err (Compressed compression)
    else (if is_depth compression bits then Ok (compression, bits) else Err BadDepth)

-- a value's bits moved down as far as this mask's lowest 1 bit has to go to bit 0
abbrev pub moved_down : ℕ → ℕ → ℕ
moved_down mask value = value / 2 ^ trailing_zeros w32 mask

-- A mask is 0 or one run of 1 bits: moved down it is 1 less than a power of two.
abbrev pub is_run : ℕ → Bool
is_run mask = mask == 0 || is_power_of_two (moved_down mask mask + 1)

-- a mask of so many bits
abbrev pub is_mask : ℕ → ℕ → Bool
is_mask bits mask = is_run mask && (bits == 32 || nat_lt mask 65536)

-- The masks. The alpha mask is a field of the longer info headers only. After the shortest one stand the
-- three others.
abbrev pub stored_masks : ℕ → List ℕ → Masks
stored_masks info_size text = record {
  red = u32_at 54 text;
  green = u32_at 58 text;
  blue = u32_at 62 text;
  alpha = if info_size == 40 then 0 else u32_at 66 text;
}

-- all four are
abbrev pub are_masks : ℕ → Masks → Bool
are_masks bits masks = is_mask bits masks.red && is_mask bits masks.green && is_mask bits masks.blue
    && is_mask bits masks.alpha

-- the masks, or what is wrong with them
unfoldable pub masks_at : ℕ → ℕ → List ℕ → Result Masks BmpFault
masks_at info_size bits text =
    let masks = stored_masks info_size text in
    if info_size == 40 && nat_lt (length text) 66 then Err Truncated
    else (if are_masks bits masks then Ok masks else Err BadMasks)

-- how many entries a palette has: as many as the header says, or all that the bits can tell apart where
-- it says 0 or more
abbrev pub palette_count : ℕ → ℕ → ℕ
palette_count bits stored = if stored == 0 || nat_lt (2 ^ bits) stored then 2 ^ bits else stored

-- The palette, which stands after the headers. An entry has four bytes.
unfoldable pub palette_at : ℕ → ℕ → List ℕ → Result Palette BmpFault
palette_at info_size bits text =
    let start = 14 + info_size in
    let count = palette_count bits (u32_at 46 text) in
    if nat_lt (length text) (start + 4 * count) then Err Truncated
    else Ok record { start = start; count = count }

-- how pixels of a palette are stored
abbrev pub indexed : ℕ → Palette → Format
indexed bits palette =
    if bits == 1 then Indexed1 palette
    else (if bits == 4 then Indexed4 palette
    else Indexed8 palette)

-- of masks
abbrev pub masked : ℕ → Masks → Format
masked bits masks = if bits == 16 then Masked16 masks else Masked32 masks

-- of neither
abbrev pub direct : ℕ → Format
direct bits = if bits == 16 then Rgb555 else (if bits == 24 then Bgr24 else Bgr32)

-- how pixels are stored, or what is wrong with masks or palette
unfoldable pub format_of : ℕ → ℕ → ℕ → List ℕ → Result Format BmpFault
format_of info_size compression bits text =
    if compression == 3 then masks_at info_size bits text >>= (λ masks. Ok (masked bits masks))
    else (if nat_le bits 8 then palette_at info_size bits text >>= (λ palette. Ok (indexed bits palette))
    else Ok (direct bits))

-- The size, and how and where the pixels are stored. That the raster lies inside the text is for those
-- who read rows to see.
unfoldable pub head_of : List ℕ → Result Head BmpFault
head_of text = do
  info_size ← info_size_at text
  size ← size_at text
  depth ← depth_at text
  format ← format_of info_size depth.0 depth.1 text
  Ok record {
    width = size.0;
    height = size.1;
    order = size.2;
    format = format;
    raster_start = u32_at 10 text;
  }
