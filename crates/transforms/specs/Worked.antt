-- Pictures of the worked examples.
use Rattle.std.specs.Prelude.{ℕ, List}
use Rattle.bitmap_kind.specs.declared.bitmaps.Config.TheVariants.{Alpha8}
use Rattle.bitmap_kind.specs.Picture.{Picture}

-- a picture of one byte a pixel
abbrev pub alphas : ℕ → ℕ → List ℕ → Picture
alphas width height bytes = record { width = width; height = height; config = Alpha8; bytes = bytes }
