-- The full picture of a text, or the first rule that it breaks. The picture is that of Netpbm's ppm(5)
-- and pgm(5); that a broken rule has a name, and which of several comes first, is this project's own: the
-- first in the order of the text.
use Rattle.std.specs.Prelude.{ℕ, List, Result, drop}
use Rattle.ppm_read.specs.declared.fault.PpmFault.{PpmFault}
use Rattle.ppm_read.specs.declared.header.Head.{Head}
use Rattle.picture_rows.specs.Reading.{◌>>=◌}
use Rattle.picture_rows.specs.RowsLeft.{RowsLeft}
use Rattle.picture_rows.specs.FullPicture.{FullPicture, full_of}
use Rattle.ppm_read.specs.Header.{head_of}
use Rattle.picture_rows.specs.RowsLeft.{RowsLeft}
use Rattle.ppm_read.specs.Raster.{rows_of}

-- the rows that a text has after its header; what stands after the last row is ignored
abbrev pub rows_under : Head → List ℕ → RowsLeft PpmFault
rows_under head text = rows_of head head.height (drop head.raster_start text)

-- the rows one after the other
abbrev pub full_picture_under : Head → List ℕ → Result FullPicture PpmFault
full_picture_under head text = full_of (head.width, head.height) (rows_under head text)

-- the header's fault stands before the raster's
abbrev pub full_picture : List ℕ → Result FullPicture PpmFault
full_picture text = head_of text >>= (λ head. full_picture_under head text)
