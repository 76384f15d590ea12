-- What is done of a picture that is moved. Only this crate's calls say it.
use Rattle.std.specs.Prelude.{ℕ, ◌+◌, ◌<◌, ◌≡◌, length}
use Rattle.bitmap_kind.specs.Picture.{Picture, BitmapValue, pixel_at}

-- In the rows above `rows` so many columns, from x on, have the pixels of these columns and rows of the
-- source. The columns before x have their pixels still, and nothing but bytes has changed.
pub record MovesColumns (source : Picture) (old new : BitmapValue) (x count rows : ℕ)
    (column row : ℕ → ℕ) : Type 0 where
  pub shape : new ≡ record old { picture = record old.picture { bytes = new.picture.bytes } }
  pub len : length new.picture.bytes ≡ length old.picture.bytes
  pub moved : (i y : ℕ) → i < count → y < rows
      → pixel_at new.picture (x + i) y ≡ pixel_at source (column i) (row y)
  pub left : (i y : ℕ) → i < x → y < old.picture.height
      → pixel_at new.picture i y ≡ pixel_at old.picture i y
