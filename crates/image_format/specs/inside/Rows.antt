-- The rows of a picture of either kind that are left while it is read, as one reader's: each fault is a
-- refusal. Only this crate's calls say it.
use Rattle.std.specs.Prelude.{◌≡◌, ℕ, List, Ok, Err, Result}
use Rattle.std.specs.Option.{option_map}
use Rattle.picture_rows.specs.RowsLeft.{RowsLeft, HasRows}
use Rattle.picture_rows.specs.FullPicture.{IsPictureSize, full_of}
use Rattle.image_format.specs.declared.refusal.Refusal.{Refusal}
use Rattle.image_format.specs.declared.refusal.Refusal.TheVariants.{Ppm, Bmp}
use Rattle.image_format.specs.declared.rows.PictureRows.{PictureRows}
use Rattle.image_format.specs.declared.rows.PictureRows.TheVariants.{Netpbm, Bitmap}
use Rattle.image_format.specs.Pictures.{source_size, full_picture}

-- the rows of a reader, whose fault is a refusal
abbrev pub refusing : {F : Type 0} → (F → Refusal) → RowsLeft F → RowsLeft Refusal
refusing refusal left = record { width = left.width; rows = left.rows; fault = option_map refusal left.fault }

-- those of either reader
abbrev pub rows_by : PictureRows → RowsLeft Refusal
rows_by (Netpbm left) = refusing Ppm left
rows_by (Bitmap left) = refusing Bmp left

-- all rows of the picture of a text, which has this size
pub record IsOpened (text : List ℕ) (size : ℕ × ℕ) (left : RowsLeft Refusal) : Type 0 where
  pub header : source_size text ≡ Ok size
  pub full : full_picture text ≡ full_of size left
  pub count : HasRows size.1 left
  pub width : left.width ≡ size.0
  pub sides : IsPictureSize size.0 size.1

-- what opening a text answers: its size and its rows, or the refusal of its kind or its header
abbrev pub Opens : List ℕ → Result ((ℕ × ℕ) × PictureRows) Refusal → Type 0
Opens text (Ok opened) = IsOpened text opened.0 (rows_by opened.1)
Opens text (Err refusal) = full_picture text ≡ Err refusal
