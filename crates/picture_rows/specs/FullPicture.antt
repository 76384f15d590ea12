-- The full picture of a text: what a format says of its pixels, in one record.
use Rattle.std.specs.Prelude.{ℕ, ◌*◌, ◌≤◌, List, take, drop, Result}
use Rattle.std.specs.List.{concat}
use Rattle.picture_rows.specs.Reading.{unless_fault}
use Rattle.picture_rows.specs.RowsLeft.{RowsLeft}

-- a size, and red, green, blue and alpha of each pixel from the top row
pub record FullPicture : Type 0 where
  pub width : ℕ
  pub height : ℕ
  pub pixels : List ℕ

-- the four bytes of the pixel in this column of this row, both counted from 0
abbrev pub pixel_of : FullPicture → ℕ → ℕ → List ℕ
pixel_of picture x y = take 4 (drop (4 * x)
    (take (4 * picture.width) (drop (4 * picture.width * y) picture.pixels)))

-- the full picture of this width and height that all these rows make, one after the other, or their fault
abbrev pub full_of : {F : Type 0} → ℕ × ℕ → RowsLeft F → Result FullPicture F
full_of size left =
    unless_fault left.fault record { width = size.0; height = size.1; pixels = concat left.rows }

-- both sides are at least 1
pub record IsPictureSize (width height : ℕ) : Type 0 where
  pub wide : 1 ≤ width
  pub high : 1 ≤ height
