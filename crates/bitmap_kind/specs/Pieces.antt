-- Lists that are made of pieces, one after the other, as pictures are made of rows and rows of pixels.
use Rattle.std.specs.Prelude.{◌≡◌, ℕ, zero, suc, ◌+◌, ◌*◌, ◌<◌, ◌≤◌, List, ◌++◌, take, drop, refl}
use Rattle.std.specs.List.{flat_map, range_with_len}
use Rattle.std.proofs.Common.{zero-mul, suc-mul, sym, ap, ◌∙◌, arith}
use Rattle.std.proofs.Math.Seq.{take-add}
use Rattle.std.proofs.lemmas.List.{drop-drop}

-- all pieces of one length of a list, from one of them on, are the list from there on
pub all_pieces : (xs : List ℕ) (n a count : ℕ)
    → flat_map (λ i. take n (drop (i * n) xs)) (range_with_len a count) ≡ take (count * n) (drop (a * n) xs)
all_pieces xs n a zero = let none : zero * n ≡ 0 = zero-mul n in rw none refl
all_pieces xs n a (suc count) =
    let more : suc count * n ≡ n + count * n = omega (arith, suc-mul count n) in
    let next : a * n + n ≡ (a + 1) * n = omega arith in
    let after = drop-drop n (a * n) xs ∙ ap (λ k. drop k xs) next in
    ap (λ l. take n (drop (a * n) xs) ++ l)
    (all_pieces xs n (a + 1) count ∙ ap (take (count * n)) (sym after))
    ∙ sym (ap (λ k. take k (drop (a * n) xs)) more ∙ take-add n (count * n) (drop (a * n) xs))

-- two lists whose pieces are equal
pub same_pieces : (f g : ℕ → List ℕ) (a count : ℕ) → ((k : ℕ) → a ≤ k → k < a + count → f k ≡ g k)
    → flat_map f (range_with_len a count) ≡ flat_map g (range_with_len a count)
same_pieces f g a zero same = refl
same_pieces f g a (suc count) same = λ i.
    same a (omega arith) (omega arith) i
    ++ same_pieces f g (a + 1) count (λ k low high. same k (omega arith) (omega arith)) i
