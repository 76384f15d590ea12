-- Two configs are one exactly where they are equal, for what is kept by config.
use Rattle.std.specs.Prelude.{◌≡◌, true, refl}
use Rattle.bitmap_kind.specs.declared.bitmaps.Config.{Config}
use Rattle.bitmap_kind.specs.declared.bitmaps.Config.TheVariants.{Argb8888, Rgb565, Alpha8}
use Rattle.cache_key.specs.Key.{same_config}

pub config_is : (a b : Config) → same_config a b ≡ true → a ≡ b
config_is Argb8888 Argb8888 e = refl
config_is Argb8888 Rgb565 e = Prim.cc
config_is Argb8888 Alpha8 e = Prim.cc
config_is Rgb565 Argb8888 e = Prim.cc
config_is Rgb565 Rgb565 e = refl
config_is Rgb565 Alpha8 e = Prim.cc
config_is Alpha8 Argb8888 e = Prim.cc
config_is Alpha8 Rgb565 e = Prim.cc
config_is Alpha8 Alpha8 e = refl

pub config_itself : (a : Config) → same_config a a ≡ true
config_itself Argb8888 = refl
config_itself Rgb565 = refl
config_itself Alpha8 = refl
