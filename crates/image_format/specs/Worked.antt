-- Keys and pictures of the worked examples.
use Rattle.std.specs.Prelude.{ℕ, List}
use Rattle.bitmap_kind.specs.declared.bitmaps.Config.{Config}
use Rattle.bitmap_kind.specs.declared.bitmaps.Config.TheVariants.{Argb8888}
use Rattle.bitmap_kind.specs.declared.bitmaps.Rule.{Rule}
use Rattle.bitmap_kind.specs.declared.bitmaps.Transform.{Transform}
use Rattle.bitmap_kind.specs.Picture.{Picture}
use Rattle.cache_key.specs.Key.{Key}
use Rattle.cache_key.specs.Worked.{red_key}

-- the worked url and signature, wanted so
abbrev pub wanted : ℕ → ℕ → Transform → Config → Rule → Key
wanted width height transform config rule = record red_key {
  width = width;
  height = height;
  transform = transform;
  config = config;
  rule = rule;
}

-- a picture of four bytes a pixel
abbrev pub argb : ℕ → ℕ → List ℕ → Picture
argb width height bytes = record { width = width; height = height; config = Argb8888; bytes = bytes }
