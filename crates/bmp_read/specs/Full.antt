-- The full picture of a text, or the first rule that it breaks. The picture is that of a Windows bitmap;
-- that a broken rule has a name, and which of several comes first, is this project's own: the rules of
-- the headers in their order, then the raster's.
use Rattle.std.specs.Prelude.{ℕ, List, Result}
use Rattle.bmp_read.specs.declared.fault.BmpFault.{BmpFault}
use Rattle.bmp_read.specs.declared.header.Head.{Head}
use Rattle.picture_rows.specs.Reading.{◌>>=◌}
use Rattle.picture_rows.specs.RowsLeft.{RowsLeft}
use Rattle.picture_rows.specs.FullPicture.{FullPicture, full_of}
use Rattle.bmp_read.specs.Header.{head_of}
use Rattle.picture_rows.specs.RowsLeft.{RowsLeft}
use Rattle.bmp_read.specs.Raster.{rows_of}

-- the rows that a text has after its header; what stands after the raster is ignored
abbrev pub rows_under : Head → List ℕ → RowsLeft BmpFault
rows_under head text = rows_of head head.height text

-- the rows one after the other
abbrev pub full_picture_under : Head → List ℕ → Result FullPicture BmpFault
full_picture_under head text = full_of (head.width, head.height) (rows_under head text)

-- the header's fault stands before the raster's
abbrev pub full_picture : List ℕ → Result FullPicture BmpFault
full_picture text = head_of text >>= (λ head. full_picture_under head text)
