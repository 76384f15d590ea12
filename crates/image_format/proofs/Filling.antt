-- A bitmap that is filled row by row.
use Rattle.std.proofs.Common.{◌≡◌, ℕ, ◌+◌, ◌*◌, ◌≤◌, ◌<◌, inl, inr, List, [], ◌∷◌, ◌++◌, length, take, drop, None, sym, ap, subst, ◌∙◌, arith, rules, append-nil, length-append, length-drop, zero-mul}
use Rattle.std.specs.List.{concat}
use Rattle.std.proofs.lemmas.List.Folds.{concat-append}
use Rattle.std.proofs.Math.Seq.{take-add}
use Rattle.std.proofs.lemmas.Nat.{mul-le}
use Rattle.std.proofs.lemmas.List.{drop-drop, take_at, take_all, length-take-le, places}
use Rattle.bitmap_kind.specs.Stored.{overwritten, stored, pixel_bytes}
use Rattle.bitmap_kind.specs.Picture.{Picture, BitmapValue, IsSize}
use Rattle.bitmap_kind.specs.StoredLaws.{StoresEachPixel, StoresInOrder}
use Rattle.picture_rows.specs.RowsLeft.{RowsLeft, with_row, HasRows}
use Rattle.image_format.specs.declared.refusal.Refusal.{Refusal}
use Rattle.image_format.specs.Answers.{KeepsShape}
use Rattle.image_format.specs.inside.Filled.{IsBitmap, IsFilled}

-- ---- the rows that are read

-- all but the first y rows
abbrev pub rest_of : RowsLeft Refusal → ℕ → RowsLeft Refusal
rest_of all y = record all { rows = drop y all.rows }

-- a row was read
pub next_rest : (all old new : RowsLeft Refusal) (y : ℕ) (row : List ℕ) → old ≡ rest_of all y → old ≡ with_row row new → (new ≡ rest_of all (y + 1)) × (y < length all.rows) × (concat (take (y + 1) all.rows) ≡ concat (take y all.rows) ++ row) × (concat (drop y all.rows) ≡ row ++ concat (drop (y + 1) all.rows))
next_rest all old new y row e f =
    let here : drop y all.rows ≡ row ∷ new.rows = ap (λ (l : RowsLeft Refusal). l.rows) (sym e ∙ f) in
    let wide : new.width ≡ all.width = sym (ap (λ (l : RowsLeft Refusal). l.width) (sym e ∙ f)) in
    let fault : new.fault ≡ all.fault = sym (ap (λ (l : RowsLeft Refusal). l.fault) (sym e ∙ f)) in
    let rows : new.rows ≡ drop (y + 1) all.rows = ap (drop 1) (sym here) ∙ drop-drop 1 y all.rows in (
      λ i. record { width = wide i; rows = rows i; fault = fault i },
      omega (arith, ap length here, length-drop y all.rows),
      ap concat (take-add y 1 all.rows ∙ ap (λ l. take y all.rows ++ take 1 l) here) ∙ concat-append (take y all.rows) (row ∷ []) ∙ ap (λ l. concat (take y all.rows) ++ l) (append-nil row),
      ap concat here ∙ ap (λ l. row ++ concat l) rows,
    )

rows_all : (h : ℕ) (all : RowsLeft Refusal) → HasRows h all → all.fault ≡ None → length all.rows ≡ h
rows_all h all (inl whole) e = whole.0
rows_all h all (inr fewer) e = let none : ⊥ = grind (arith, fewer.1, e) in absurd none

-- no row is left, and no fault comes: all were read
pub rows_done : (h y : ℕ) (all old : RowsLeft Refusal) → HasRows h all → old ≡ rest_of all y → y ≤ length all.rows → old.rows ≡ [] → old.fault ≡ None → (all.fault ≡ None) × (y ≡ h) × (concat (take y all.rows) ≡ concat all.rows)
rows_done h y all old count e below none fine =
    let empty : drop y all.rows ≡ [] = sym (ap (λ (l : RowsLeft Refusal). l.rows) e) ∙ none in
    let last : y ≡ length all.rows = omega (arith, ap length empty, length-drop y all.rows) in
    let clean : all.fault ≡ None = sym (ap (λ (l : RowsLeft Refusal). l.fault) e) ∙ fine in
    (clean, last ∙ rows_all h all count clean, ap concat (take_all y all.rows (omega arith)))

-- ---- the rows that stand in a bitmap

-- bytes up to the end of the piece
take_overwritten : (b piece : List ℕ) (at n : ℕ) → n ≡ at + length piece → at ≤ length b → take n (overwritten b at piece) ≡ take at b ++ piece
take_overwritten b piece at n e fits = take_at (take at b ++ piece) (drop (at + length piece) b) n (omega (arith, length-append (take at b) piece, length-take-le at b fits))

abbrev pub with_row_at : Picture → ℕ → List ℕ → Picture
with_row_at old y row = record old { bytes = overwritten old.bytes (y * (old.width * pixel_bytes old.config)) (stored old.config row) }

-- a row more
row_inside : (y width height size : ℕ) → y < height → y * (width * size) + width * size ≤ width * height * size
row_inside y width height size down =
    let below : (y + 1) * (width * size) ≤ height * (width * size) = mul-le (y + 1) (width * size) height (width * size) (omega arith) (omega arith) in
    omega arith

length-overwritten : (xs ys : List ℕ) (at : ℕ) → at + length ys ≤ length xs → length (overwritten xs at ys) ≡ length xs
length-overwritten xs ys at fits = search (rules, places)

pub filled_more : StoresEachPixel → StoresInOrder → (old new : Picture) (y : ℕ) (pixels row : List ℕ) → y < old.height → length row ≡ 4 * old.width → new ≡ with_row_at old y row → IsFilled old y pixels → IsFilled new (y + 1) (pixels ++ row)
filled_more each order old new y pixels row below size is before =
    let n = pixel_bytes old.config in
    let at : ℕ = y * (old.width * n) in
    let piece = stored old.config row in
    let long : length piece ≡ old.width * n = each old.config row old.width size in
    let room : at + length piece ≤ length old.bytes = omega (arith, row_inside y old.width old.height n below, before.bitmap.whole, long) in
    let next : (y + 1) * (old.width * n) ≡ at + old.width * n = omega arith in
    let now : IsFilled (with_row_at old y row) (y + 1) (pixels ++ row) = record {
      bitmap = record { size = before.bitmap.size; whole = length-overwritten old.bytes piece at room ∙ before.bitmap.whole };
      within = omega arith;
      size = length-append pixels row ∙ omega (arith, before.size);
      prefix = take_overwritten old.bytes piece at _ (next ∙ ap (λ k. at + k) (sym long)) (omega arith)
          ∙ ap (λ l. l ++ piece) before.prefix
          ∙ sym (order old.config pixels row (y * old.width) before.size);
    } in
    subst (λ (p : Picture). IsFilled p (y + 1) (pixels ++ row)) (sym is) now

-- no row yet
pub filled_none : (p : Picture) → IsBitmap p → IsFilled p 0 []
filled_none p bitmap = record {
  bitmap = bitmap;
  within = omega arith;
  size = sym (ap (λ k. 4 * k) (zero-mul p.width));
  prefix = ap (λ k. take k p.bytes) (zero-mul (p.width * pixel_bytes p.config));
}

-- all rows
filled_all : (p : Picture) (rows : ℕ) (pixels : List ℕ) → IsFilled p rows pixels → rows ≡ p.height → p ≡ record p { bytes = stored p.config pixels }
filled_all p rows pixels filled all =
    let size : rows * (p.width * pixel_bytes p.config) ≡ p.width * p.height * pixel_bytes p.config = ap (λ k. k * (p.width * pixel_bytes p.config)) all ∙ omega arith in
    ap (λ (l : List ℕ). record p { bytes = l }) (sym (take_all _ p.bytes (omega (arith, filled.bitmap.whole))) ∙ filled.prefix)

pub fills : (old new : BitmapValue) (rows : ℕ) (pixels all : List ℕ) → KeepsShape old new → IsFilled new.picture rows pixels → rows ≡ new.picture.height → pixels ≡ all
    → new.picture ≡ record old.picture { bytes = stored old.picture.config all }
fills old new rows pixels all shape filled full same =
    let wide = ap (λ (v : BitmapValue). v.picture.width) shape in
    let high = ap (λ (v : BitmapValue). v.picture.height) shape in
    let config = ap (λ (v : BitmapValue). v.picture.config) shape in
    filled_all new.picture rows pixels filled full ∙ (λ i. record { width = wide i; height = high i; config = config i; bytes = stored (config i) (same i) })

-- A shape that is kept twice is kept.
pub keeps_twice : (old mid new : BitmapValue) → KeepsShape old mid → KeepsShape mid new → KeepsShape old new
keeps_twice old mid new first second = second ∙ (λ i. record (first i) { picture = record (first i).picture { bytes = new.picture.bytes } })

-- no bitmap has more rows than a number of 32 bits
pub few_rows : (w h : ℕ) → IsSize w h → h ≤ 33554432
few_rows w h size = let least = mul-le 1 h w h size.wide (omega arith) in omega (arith, size.most)
