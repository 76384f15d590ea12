-- Bitmaps that are filled row by row, from the top. Only this crate's calls say it.
use Rattle.std.specs.Prelude.{◌≡◌, ℕ, ◌+◌, ◌*◌, ◌≤◌, false, List, [], ◌++◌, length, take, Ok, Err, Some, None, Result}
use Rattle.std.specs.List.{flat_map, range_with_len}
use Rattle.bitmap_kind.specs.Stored.{pixel_bytes, stored}
use Rattle.bitmap_kind.specs.Picture.{Picture, IsSize, stored_size}
use Rattle.sampling.specs.Sampled.{sampled_side, sampled_row}
use Rattle.sampling.specs.BoxValue.{BoxValue, Holds}
use Rattle.picture_rows.specs.RowsLeft.{RowsLeft}
use Rattle.image_format.specs.declared.refusal.Refusal.{Refusal}

-- what the picture of each bitmap is: of a size that a bitmap may have, and with all its bytes
pub record IsBitmap (picture : Picture) : Type 0 where
  pub size : IsSize picture.width picture.height
  pub whole : length picture.bytes ≡ stored_size picture.width picture.height picture.config

-- The first rows of a bitmap's picture are these pixels, as its config stores them. What the others are
-- is not said.
pub record IsFilled (picture : Picture) (rows : ℕ) (pixels : List ℕ) : Type 0 where
  pub bitmap : IsBitmap picture
  pub within : rows ≤ picture.height
  pub size : length pixels ≡ 4 * (rows * picture.width)
  pub prefix : take (rows * (picture.width * pixel_bytes picture.config)) picture.bytes
      ≡ stored picture.config pixels

-- All rows could be read, and the bitmap's picture is these pixels; or the refusal came that stands after
-- them.
abbrev pub Fills : {A : Type 0} → Result A Refusal → RowsLeft Refusal → List ℕ → Picture → Picture → Type 0
Fills (Ok done) rows pixels old new =
    (rows.fault ≡ None) × (new ≡ record old { bytes = stored old.config pixels })
Fills (Err refusal) rows pixels old new = rows.fault ≡ Some refusal

-- ---- rows that are sampled

-- no row was pushed yet
pub record IsFresh (boxes : BoxValue) : Type 0 where
  pub wide : 1 ≤ boxes.width
  pub high : 1 ≤ boxes.height
  pub pushed : boxes.pushed ≡ 0
  pub given : boxes.given ≡ 0
  pub open_ : boxes.full ≡ false
  pub holds : Holds boxes []

-- the rows of the sampled picture that were given, where the source has these pixels
abbrev pub first_sampled : BoxValue → List ℕ → List ℕ
first_sampled boxes pixels =
    flat_map (sampled_row boxes.width boxes.height boxes.sample pixels) (range_with_len 0 boxes.given)

-- The rows pushed so far are these pixels, and `rest` are those to come. The rows of the sampled picture
-- that were given are the first ones of the bitmap's picture, which has the sampled size.
pub record IsSampled (boxes : BoxValue) (picture : Picture) (pixels rest : List ℕ) : Type 0 where
  pub wide : picture.width ≡ sampled_side boxes.width boxes.sample
  pub high : picture.height ≡ sampled_side boxes.height boxes.sample
  pub open_ : boxes.full ≡ false
  pub holds : Holds boxes pixels
  pub last : boxes.pushed ≡ boxes.height → boxes.given ≡ sampled_side boxes.height boxes.sample
  pub filled : IsFilled picture boxes.given (first_sampled boxes (pixels ++ rest))

-- One row more was pushed, and so many rows of the sampled picture were given.
abbrev pub PushesRow : BoxValue → BoxValue → ℕ → Type 0
PushesRow old new count = new ≡ record old {
  pushed = old.pushed + 1;
  given = old.given + count;
  full = false;
  sums = new.sums;
}
