-- One row after another.
use Rattle.std.proofs.Common.{◌≡◌, ℕ, zero, suc, ◌+◌, ◌-◌, ◌*◌, ◌≤◌, ◌<◌, Bool, true, false, cond, leb, List, [], ◌∷◌, length, inl, inr, None, Some, refl, sym, ap, ◌∙◌, arith}
use Rattle.std.proofs.lemmas.Bool.Decides.{nat_tests}
use Rattle.std.proofs.Math.Nat.{mul-le-mul_left}
use Rattle.bmp_read.specs.declared.fault.BmpFault.{BmpFault}
use Rattle.bmp_read.specs.declared.fault.BmpFault.TheVariants.{Truncated}
use Rattle.bmp_read.specs.declared.header.Head.{Head}
use Rattle.bmp_read.specs.Pixel.{pixel_at}
use Rattle.picture_rows.specs.RowsLeft.{RowsLeft, with_row, HasRows}
use Rattle.bmp_read.specs.Raster.{row_length, has_raster, stored_row, stored_index, pixels, row_at, last_rows, rows_of}

pub length-last_rows : (head : Head) (text : List ℕ) (n : ℕ) → length (last_rows head text n) ≡ n
length-last_rows head text zero = refl
length-last_rows head text (suc n) = ap suc (length-last_rows head text n)

-- the raster lies inside, and so does each of its rows
inside : (n end : ℕ) → leb end n ≡ true → end ≤ n
inside n end e = grind (arith, nat_tests)

pub row_inside : (head : Head) (text : List ℕ) (size index : ℕ) → size ≡ row_length head → has_raster head text ≡ true → index < head.height → head.raster_start + size * index + size ≤ length text
row_inside head text size index is e lt =
    let all : head.raster_start + row_length head * head.height ≤ length text = inside (length text) (head.raster_start + row_length head * head.height) e in
    let same : size * head.height ≡ row_length head * head.height = ap (λ n. n * head.height) is in
    omega (arith, mul-le-mul_left size lt, same, all)

-- the rows, by whether the raster lies inside the text
abbrev pub by_raster : Head → ℕ → List ℕ → Bool → RowsLeft BmpFault
by_raster head count text inside = cond inside record { width = head.width; rows = last_rows head text count; fault = None } record { width = head.width; rows = []; fault = Some Truncated }

count_by : (head : Head) (text : List ℕ) (b : Bool) → 1 ≤ head.height → HasRows head.height (by_raster head head.height text b)
count_by head text true high = inl (length-last_rows head text head.height, refl)
count_by head text false high = inr (omega arith, refl)

-- all rows are there, or none and a fault
pub count-rows_of : (head : Head) (text : List ℕ) → 1 ≤ head.height → HasRows head.height (rows_of head head.height text)
count-rows_of head text high = count_by head text (has_raster head text) high

rows_inside : (head : Head) (count : ℕ) (text : List ℕ) → has_raster head text ≡ true → rows_of head count text ≡ by_raster head count text true
rows_inside head count text e = ap (by_raster head count text) e

last_row : (head : Head) (text : List ℕ) (left below : ℕ) → left ≡ suc below → last_rows head text left ≡ row_at head text (head.height - left) ∷ last_rows head text (left - 1)
last_row head text left below e =
    let above : head.height - 1 - below ≡ head.height - left = omega arith in
    let rest : below ≡ left - 1 = omega arith in
    ap (λ n. last_rows head text n) e ∙ (λ i. row_at head text (above i) ∷ last_rows head text (rest i))

row_is : (head : Head) (text : List ℕ) (above index : ℕ) (row into : List ℕ) → index ≡ stored_index head.order head.height above → row ≡ stored_row head text index
    → into ≡ pixels (pixel_at head.format text row) head.width → row_at head text above ≡ into
unfolding row_at
row_is head text above index row into at is written =
    sym (written ∙ ap (λ row. pixels (pixel_at head.format text row) head.width) (is ∙ ap (stored_row head text) at))

-- the next row, and those below it
pub row_more : (head : Head) (text : List ℕ) (left index : ℕ) (row into : List ℕ) → has_raster head text ≡ true → 0 < left
    → index ≡ stored_index head.order head.height (head.height - left) → row ≡ stored_row head text index → into ≡ pixels (pixel_at head.format text row) head.width
    → rows_of head left text ≡ with_row into (rows_of head (left - 1) text)
row_more head text left index row into e positive at is written =
    let rows : last_rows head text left ≡ into ∷ last_rows head text (left - 1) =
    last_row head text left (left - 1) (omega arith) ∙ ap (λ row. row ∷ last_rows head text (left - 1)) (row_is head text (head.height - left) index row into at is written) in
    rows_inside head left text e ∙ ap (λ rows. record { width = head.width; rows = rows; fault = None }) rows ∙ sym (ap (with_row into) (rows_inside head (left - 1) text e))
