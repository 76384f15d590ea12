-- Pixels as stored bytes. The configs are Android's Bitmap.Config: ARGB_8888, RGB_565 and ALPHA_8.
-- The order of the stored bytes is this project's own.
use Rattle.std.specs.Prelude.{ℕ, ◌+◌, ◌*◌, ◌/◌, ◌%◌, List, [], ◌∷◌, ◌++◌, length, take, drop}
use Rattle.bitmap_kind.specs.declared.bitmaps.Config.{Config}
use Rattle.bitmap_kind.specs.declared.bitmaps.Config.TheVariants.{Argb8888, Rgb565, Alpha8}

-- how many bytes a pixel takes, as Android's configs have it
abbrev pub pixel_bytes : Config → ℕ
pixel_bytes Argb8888 = 4
pixel_bytes Rgb565 = 2
pixel_bytes Alpha8 = 1

-- The high 5 bits of red, then the high 6 of green, then the high 5 of blue: 16 bits, as in Android's
-- RGB_565.
abbrev pub rgb565_word : ℕ → ℕ → ℕ → ℕ
rgb565_word r g b = r / 8 * 2048 + g / 4 * 32 + b / 8

-- a pixel's stored bytes; a word of 16 bits has its low byte first
abbrev pub packed : Config → ℕ → ℕ → ℕ → ℕ → List ℕ
packed Argb8888 r g b a = r ∷ g ∷ b ∷ a ∷ []
packed Rgb565 r g b a = rgb565_word r g b % 256 ∷ rgb565_word r g b / 256 ∷ []
packed Alpha8 r g b a = a ∷ []

-- the stored bytes of pixels, each of which is a red, a green, a blue and an alpha
abbrev pub stored : Config → List ℕ → List ℕ
stored config (r ∷ g ∷ b ∷ a ∷ rest) = packed config r g b a ++ stored config rest
stored config rest = []

-- bytes with a piece written over them
abbrev pub overwritten : List ℕ → ℕ → List ℕ → List ℕ
overwritten bytes at piece = take at bytes ++ piece ++ drop (at + length piece) bytes
