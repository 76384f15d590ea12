-- Pixels as they are stored in a row, as the BMP headers of Windows have them. That an index past the
-- palette is opaque black, which bytes are ignored, and how samples are rounded, is this project's own.
use Rattle.std.specs.Prelude.{◌≡◌, true, ℕ, ◌+◌, ◌-◌, ◌*◌, ◌/◌, ◌%◌, ◌^◌, ◌≤◌, ⊤, length, ◌==◌, nat_lt, List, [], ◌∷◌, slice_index, bit_and, if◌then◌else◌}
use Rattle.bmp_read.specs.declared.format.Format.{Format}
use Rattle.bmp_read.specs.declared.format.Format.TheVariants.{Indexed1, Indexed4, Indexed8, Rgb555, Bgr24, Bgr32, Masked16, Masked32}
use Rattle.bmp_read.specs.declared.format.Masks.{Masks}
use Rattle.bmp_read.specs.declared.format.Palette.{Palette}
use Rattle.picture_rows.specs.PixelBytes.{scaled}
use Rattle.bmp_read.specs.Bytes.{u16_at, u32_at}
use Rattle.bmp_read.specs.Header.{moved_down, are_masks}

-- how many bits a pixel has
abbrev pub bits_of : Format → ℕ
bits_of (Indexed1 palette) = 1
bits_of (Indexed4 palette) = 4
bits_of (Indexed8 palette) = 8
bits_of Rgb555 = 16
bits_of Bgr24 = 24
bits_of Bgr32 = 32
bits_of (Masked16 masks) = 16
bits_of (Masked32 masks) = 32

-- blue, green and red from this place on, as red, green, blue and an alpha of no transparency
abbrev pub bgr_at : ℕ → List ℕ → List ℕ
bgr_at at bytes = slice_index bytes (at + 2) ∷ slice_index bytes (at + 1) ∷ slice_index bytes at ∷ 255 ∷ []

-- The colour of an index. An entry of the palette is blue, green, red and a byte that is ignored.
abbrev pub palette_colour : Palette → List ℕ → ℕ → List ℕ
palette_colour palette text index =
    if nat_lt index palette.count then bgr_at (palette.start + 4 * index) text else 0 ∷ 0 ∷ 0 ∷ 255 ∷ []

-- Indexes of less than a byte: the leftmost pixel has the highest bits.
abbrev pub index1 : List ℕ → ℕ → ℕ
index1 row x = slice_index row (x / 8) / 2 ^ (7 - x % 8) % 2

-- a half of a byte
abbrev pub index4 : List ℕ → ℕ → ℕ
index4 row x = slice_index row (x / 2) / 16 ^ (1 - x % 2) % 16

-- red is bits 10 to 14, green bits 5 to 9 and blue bits 0 to 4
abbrev pub rgb555 : ℕ → List ℕ
rgb555 value =
    scaled 31 (value / 2 ^ 10 % 32) ∷ scaled 31 (value / 2 ^ 5 % 32) ∷ scaled 31 (value % 32) ∷ 255 ∷ []

-- A channel by its mask: the masked bits, moved down to bit 0, and their maximum is the mask, moved down
-- likewise. A mask of 0 has none, and something else stands for it.
abbrev pub channel : ℕ → ℕ → ℕ → ℕ
channel mask absent value =
    if mask == 0 then absent else scaled (moved_down mask mask) (moved_down mask (bit_and value mask))

-- red, green, blue and alpha by their masks
abbrev pub masked_colour : Masks → ℕ → List ℕ
masked_colour masks value =
    channel masks.red 0 value ∷ channel masks.green 0 value ∷ channel masks.blue 0 value
    ∷ channel masks.alpha 255 value ∷ []

-- the palette, if there is one, lies inside the text
abbrev pub IsPaletteInside : Palette → List ℕ → Type 0
IsPaletteInside palette text = palette.start + 4 * palette.count ≤ length text

-- a format's palette does, if it has one, and its masks have 16 bits where a pixel has
abbrev pub IsFormatIn : Format → List ℕ → Type 0
IsFormatIn (Indexed1 palette) text = IsPaletteInside palette text
IsFormatIn (Indexed4 palette) text = IsPaletteInside palette text
IsFormatIn (Indexed8 palette) text = IsPaletteInside palette text
IsFormatIn (Masked16 masks) text = are_masks 16 masks ≡ true
IsFormatIn format text = ⊤

-- the pixel in this column of a stored row: red, green, blue and alpha
abbrev pub pixel_at : Format → List ℕ → List ℕ → ℕ → List ℕ
pixel_at (Indexed1 palette) text row x = palette_colour palette text (index1 row x)
pixel_at (Indexed4 palette) text row x = palette_colour palette text (index4 row x)
pixel_at (Indexed8 palette) text row x = palette_colour palette text (slice_index row x)
pixel_at Rgb555 text row x = rgb555 (u16_at (2 * x) row)
pixel_at Bgr24 text row x = bgr_at (3 * x) row
pixel_at Bgr32 text row x = bgr_at (4 * x) row
pixel_at (Masked16 masks) text row x = masked_colour masks (u16_at (2 * x) row)
pixel_at (Masked32 masks) text row x = masked_colour masks (u32_at (4 * x) row)
