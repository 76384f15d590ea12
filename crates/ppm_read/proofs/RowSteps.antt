-- The rows of a picture, one after another.
use Rattle.std.proofs.Common.{◌≡◌, inl, inr, ℕ, zero, suc, ◌-◌, ◌<◌, ◌≤◌, ◌&&◌, Bool, true, false, eqb, leb, ltb, List, length, Result, Ok, Err, refl, ap, ◌∙◌, arith}
use Rattle.std.proofs.lemmas.Bool.{and_parts}
use borrow.Author.Tests.{ltb-true}
use Rattle.std.proofs.lemmas.Bool.Decides.{nat_tests}
use Rattle.ppm_read.specs.declared.fault.PpmFault.{PpmFault}
use Rattle.ppm_read.specs.declared.header.Head.{Head}
use Rattle.ppm_read.specs.Header.{magic_at, part_at, size_at, maximum_at, raster_at, head_of}
use Rattle.picture_rows.specs.RowsLeft.{RowsLeft, with_row, HasRows}
use Rattle.ppm_read.specs.Raster.{row_at, row_then, rows_of}
use Rattle.ppm_read.proofs.Chains.{bind_ok, cond_ok, inside}

width_then : (w : ℕ) (row : Result (List ℕ × List ℕ) PpmFault) (below : List ℕ → RowsLeft PpmFault) → ((rest : List ℕ) → (below rest).width ≡ w) → (row_then w row below).width ≡ w
width_then w (Ok row) below same = same row.1
width_then w (Err fault) below same = refl

pub width-rows_of : (head : Head) (h : ℕ) (text : List ℕ) → (rows_of head h text).width ≡ head.width
width-rows_of head zero text = refl
width-rows_of head (suc h) text = width_then head.width (row_at head (eqb h 0) text) (λ rest. rows_of head h rest) (λ rest. width-rows_of head h rest)

-- one row more
grown : (h : ℕ) (row : List ℕ) (left : RowsLeft PpmFault) → HasRows h left → HasRows (suc h) (with_row row left)
grown h row left (inl all) = inl (ap suc all.0, all.1)
grown h row left (inr fewer) = inr (omega (arith, fewer.0), fewer.1)

count_then : (w h : ℕ) (row : Result (List ℕ × List ℕ) PpmFault) (below : List ℕ → RowsLeft PpmFault) → ((rest : List ℕ) → HasRows h (below rest)) → HasRows (suc h) (row_then w row below)
count_then w h (Ok row) below count = grown h row.0 (below row.1) (count row.1)
count_then w h (Err fault) below count = inr (omega arith, refl)

-- how many rows there are
pub count-rows_of : (head : Head) (h : ℕ) (text : List ℕ) → HasRows h (rows_of head h text)
count-rows_of head zero text = inl (refl, refl)
count-rows_of head (suc h) text = count_then head.width h (row_at head (eqb h 0) text) (λ rest. rows_of head h rest) (λ rest. count-rows_of head h rest)

-- the next row
pub rows_more : (head : Head) (h : ℕ) (text : List ℕ) (last : Bool) → 0 < h → last ≡ eqb h 1 → rows_of head h text ≡ row_then head.width (row_at head last text) (λ rest. rows_of head (h - 1) rest)
rows_more head zero text last lt e = absurd (omega arith)
rows_more head (suc h) text last lt e =
    let flag : eqb h 0 ≡ last = grind (arith, nat_tests) in
    let one : h ≡ suc h - 1 = omega arith in
    ap (λ b. row_then head.width (row_at head b text) (λ rest. rows_of head h rest)) flag ∙ ap (λ n. row_then head.width (row_at head last text) (λ rest. rows_of head n rest)) one

le_by : (a b n : ℕ) → a - b ≡ n → n ≤ a
le_by a b n e = omega arith

at_least : (a b n : ℕ) → 0 < a → a ≡ b → b ≡ n → 1 ≤ n
at_least a b n lt e f = omega arith

-- what a header is sure to be
pub record IsHeadOf (text : List ℕ) (head : Head) : Type 0 where
  pub start : head.raster_start ≤ length text
  pub maximum : 1 ≤ head.maximum

pub head_facts : (text : List ℕ) (head : Head) → head_of text ≡ Ok head → IsHeadOf text head
unfolding head_of maximum_at
head_facts text head e =
    let kind = bind_ok (magic_at text) _ head e in
    let size = bind_ok (size_at kind.0.2) _ head kind.2 in
    let most = bind_ok (maximum_at size.0.2) _ head size.2 in
    let raster = bind_ok (raster_at kind.0.1 most.0.1) _ head most.2 in
    let number = bind_ok (part_at size.0.2) _ most.0 most.1 in
    let range = cond_ok (ltb 0 number.0.0 && leb number.0.0 65535) (Ok number.0) _ most.0 number.2 in
    let same : number.0 ≡ most.0 = inside number.0 most.0 range.1 in
    let whole = inside _ head raster.2 in
    let start : length text - length raster.0 ≡ head.raster_start = ap (λ (h : Head). h.raster_start) whole in
    let maximum : most.0.0 ≡ head.maximum = ap (λ (h : Head). h.maximum) whole in
    let low : 0 < number.0.0 = ltb-true 0 number.0.0 (and_parts _ _ range.0).0 in
    let most_is : number.0.0 ≡ most.0.0 = ap (λ (x : ℕ × List ℕ). x.0) same in
    record { start = le_by (length text) (length raster.0) head.raster_start start; maximum = at_least number.0.0 most.0.0 head.maximum low most_is maximum }
