-- What the stored bytes of several pixels are. It follows from how each is stored.
use Rattle.std.specs.Prelude.{◌≡◌, ℕ, ◌*◌, List, ◌++◌, length}
use Rattle.bitmap_kind.specs.declared.bitmaps.Config.{Config}
use Rattle.bitmap_kind.specs.Stored.{pixel_bytes, stored}

-- so many pixels have so many stored bytes
abbrev pub StoresEachPixel : Type 0
StoresEachPixel = (config : Config) (pixels : List ℕ) (count : ℕ) → length pixels ≡ 4 * count
    → length (stored config pixels) ≡ count * pixel_bytes config

-- those of some pixels stand before those of the pixels after them
abbrev pub StoresInOrder : Type 0
StoresInOrder = (config : Config) (pixels others : List ℕ) (count : ℕ) → length pixels ≡ 4 * count
    → stored config (pixels ++ others) ≡ stored config pixels ++ stored config others
