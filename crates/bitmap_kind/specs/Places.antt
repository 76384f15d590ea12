-- Where pixels stand among the stored bytes of a picture, and how long pieces of lists are, for the crates that
-- move pixels.
use Rattle.std.specs.Prelude.{◌≡◌, ℕ, ◌+◌, ◌*◌, ◌<◌, ◌≤◌, List, [], ◌∷◌, length, take, drop, get_or}
use Rattle.std.specs.List.{flat_map}
use Rattle.std.proofs.Common.{add-one, zero-mul, suc-mul, length-append, refl, sym, ◌∙◌, arith, rules, length-take, length-drop}
use Rattle.std.proofs.lemmas.Nat.{mul-le}
use Rattle.std.proofs.lemmas.List.{places}
use Rattle.bitmap_kind.specs.Stored.{overwritten}

-- so many pixels from column x on end in their row, and so before the end of the picture
pub run_inside : (x y width height count size : ℕ) → x + count ≤ width → y < height
    → (y * width + x) * size + count * size ≤ width * height * size
run_inside x y width height count size across down =
    let below : (y + 1) * width ≤ height * width =
    mul-le (y + 1) width height width (omega arith) (omega arith) in
    let pixels : y * width + x + count ≤ width * height = omega arith in
    let bytes : (y * width + x + count) * size ≤ width * height * size =
    mul-le _ size _ size pixels (omega arith) in
    omega arith

-- so many elements from a place on
pub length-piece : (xs : List ℕ) (at k : ℕ) → at + k ≤ length xs
    → length (take k (drop at xs)) ≡ k
length-piece xs at k fits = omega (arith, length-take {A = ℕ}, length-drop {A = ℕ})

-- bytes with a piece written over them are as many
pub length-overwritten : (xs ys : List ℕ) (at : ℕ) → at + length ys ≤ length xs
    → length (overwritten xs at ys) ≡ length xs
length-overwritten xs ys at fits = search (rules, places)

-- pieces of one length, one after the other
pub length-pieces : (f : ℕ → List ℕ) (n : ℕ) (xs : List ℕ)
    → ((k : ℕ) (d : ℕ) → k < length xs → length (f (get_or xs k d)) ≡ n)
    → length (flat_map f xs) ≡ length xs * n
length-pieces f n [] each = sym (zero-mul n)
length-pieces f n (x ∷ xs) each =
    length-append (f x) (flat_map f xs)
    ∙ (λ i. each 0 0 (omega arith) i + length-pieces f n xs (λ k d lt.
    let next : get_or (x ∷ xs) (k + 1) d ≡ get_or xs k d = rw add-one refl in
    rw (← next) (each (k + 1) d (omega arith))) i)
    ∙ omega (arith, suc-mul (length xs) n)
