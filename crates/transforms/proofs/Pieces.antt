-- Pieces of a list that is written over.
use Rattle.std.proofs.Common.{◌≡◌, ℕ, zero, suc, zero-mul, suc-mul, ◌+◌, ◌*◌, ◌<◌, ◌≤◌, List, [], ◌∷◌, ◌++◌, length, take, drop, get_or, ap, ◌∙◌, arith, rules}
use Rattle.std.specs.List.{flat_map}
use Rattle.std.proofs.Math.Seq.{drop-append-add}
use Rattle.std.proofs.lemmas.List.{same_lists, places, take_at}
use Rattle.bitmap_kind.specs.Stored.{overwritten}

-- within what was written
pub inside-overwritten : (xs ys : List ℕ) (at k n : ℕ) → at + length ys ≤ length xs → k + n ≤ length ys → take n (drop (at + k) (overwritten xs at ys)) ≡ take n (drop k ys)
inside-overwritten xs ys at k n fits within = same_lists _ _ (search (rules, places)) (λ q d h. grind (arith, places))

-- before it
pub before-overwritten : (xs ys : List ℕ) (at p n : ℕ) → at + length ys ≤ length xs → p + n ≤ at → take n (drop p (overwritten xs at ys)) ≡ take n (drop p xs)
before-overwritten xs ys at p n fits below = same_lists _ _ (search (rules, places)) (λ q d h. grind (arith, places))

-- behind it
pub behind-overwritten : (xs ys : List ℕ) (at p n : ℕ) → at + length ys ≤ length xs → at + length ys ≤ p → take n (drop p (overwritten xs at ys)) ≡ take n (drop p xs)
behind-overwritten xs ys at p n fits above = same_lists _ _ (search (rules, places)) (λ q d h. grind (arith, places))

-- a piece of a piece
pub piece-piece : (xs : List ℕ) (at j k n : ℕ) → j + k ≤ n → take k (drop j (take n (drop at xs))) ≡ take k (drop (at + j) xs)
piece-piece xs at j k n fits = same_lists _ _ (search (rules, places)) (λ q d h. grind (arith, places))

-- of pieces of one length, the piece of an element
pub piece-flat_map : (f : ℕ → List ℕ) (n : ℕ) (xs : List ℕ) (i : ℕ) → ((k : ℕ) → k < length xs → length (f (get_or xs k 0)) ≡ n) → i < length xs → take n (drop (i * n) (flat_map f xs)) ≡ f (get_or xs i 0)
piece-flat_map f n [] i each lt = absurd (omega arith)
piece-flat_map f n (x ∷ xs) zero each lt =
    let none : zero * n ≡ 0 = zero-mul n in
    rw none (take_at (f x) (flat_map f xs) n (each 0 (omega arith)))
piece-flat_map f n (x ∷ xs) (suc i) each lt =
    let next : suc i * n ≡ length (f x) + i * n = omega (arith, suc-mul i n, each 0 (omega arith)) in
    ap (λ k. take n (drop k (f x ++ flat_map f xs))) next
    ∙ ap (take n) (drop-append-add (f x) (flat_map f xs) (i * n))
    ∙ piece-flat_map f n xs i (λ k below. each (suc k) (omega arith)) (omega arith)
