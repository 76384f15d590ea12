-- The raster, as the BMP headers of Windows have it: each row begins at a multiple of four bytes after
-- the raster's beginning, and the rows come from the bottom, or from the top where the height is below 0.
-- That a raster which does not lie inside the text has no rows is this project's own.
use Rattle.std.specs.Prelude.{ℕ, zero, suc, ◌+◌, ◌-◌, ◌*◌, ◌/◌, nat_le, List, [], ◌∷◌, length, take, drop, if◌then◌else◌, Some, None, Bool}
use Rattle.std.specs.List.{flat_map, range_with_len}
use Rattle.bmp_read.specs.declared.fault.BmpFault.{BmpFault}
use Rattle.bmp_read.specs.declared.fault.BmpFault.TheVariants.{Truncated}
use Rattle.bmp_read.specs.declared.header.Head.{Head}
use Rattle.bmp_read.specs.declared.header.RowOrder.{RowOrder}
use Rattle.bmp_read.specs.declared.header.RowOrder.TheVariants.{TopFirst, BottomFirst}
use Rattle.picture_rows.specs.RowsLeft.{RowsLeft}
use Rattle.bmp_read.specs.Pixel.{bits_of, pixel_at}

-- how many bytes a stored row has: a multiple of four
abbrev pub row_length : Head → ℕ
row_length head = (head.width * bits_of head.format + 31) / 32 * 4

-- the raster lies inside the text
abbrev pub has_raster : Head → List ℕ → Bool
has_raster head text = nat_le (head.raster_start + row_length head * head.height) (length text)

-- the bytes of a stored row, counted from the raster's beginning
abbrev pub stored_row : Head → List ℕ → ℕ → List ℕ
stored_row head text index =
    take (row_length head) (drop (row_length head * index) (drop head.raster_start text))

-- where in the file the row stands that has so many rows above it
abbrev pub stored_index : RowOrder → ℕ → ℕ → ℕ
stored_index TopFirst height above = above
stored_index BottomFirst height above = height - 1 - above

-- the pixels of these columns, from the left
abbrev pub pixels : (ℕ → List ℕ) → ℕ → List ℕ
pixels pixel width = flat_map pixel (range_with_len 0 width)

-- the row that has so many rows above it
unfoldable pub row_at : Head → List ℕ → ℕ → List ℕ
row_at head text above =
    let index = stored_index head.order head.height above in
    pixels (pixel_at head.format text (stored_row head text index)) head.width

-- the last rows of the picture, so many, from the top
abbrev pub last_rows : Head → List ℕ → ℕ → List (List ℕ)
last_rows head text zero = []
last_rows head text (suc below) = row_at head text (head.height - 1 - below) ∷ last_rows head text below

-- the last rows, or the fault in the place of all
abbrev pub rows_of : Head → ℕ → List ℕ → RowsLeft BmpFault
rows_of head count text =
    if has_raster head text then record { width = head.width; rows = last_rows head text count; fault = None }
    else record { width = head.width; rows = []; fault = Some Truncated }
