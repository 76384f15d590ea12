-- Where pixels stand, and pieces of lists.
use Rattle.std.proofs.Common.{◌≡◌, ℕ, ◌+◌, ◌*◌, ◌<◌, ◌≤◌, add-one, zero-mul, suc-mul, List, [], ◌∷◌, get_or, length-append, length, take, drop, refl, sym, ◌∙◌, arith, rules, length-take, length-drop}
use Rattle.std.proofs.lemmas.Nat.{mul-le}
use Rattle.std.proofs.lemmas.List.{same_lists, places}
use Rattle.std.specs.List.{flat_map}
use Rattle.bitmap_kind.specs.Stored.{overwritten}

pub row_inside : (y width height size : ℕ) → y < height → y * (width * size) + width * size ≤ width * height * size
row_inside y width height size down =
    let below : (y + 1) * (width * size) ≤ height * (width * size) = mul-le (y + 1) (width * size) height (width * size) (omega arith) (omega arith) in
    omega arith

-- a piece of a prefix is one of the whole
pub piece-take : (xs : List ℕ) (at k n : ℕ) → at + k ≤ n → take k (drop at (take n xs)) ≡ take k (drop at xs)
piece-take xs at k n fits = same_lists _ _ (search (rules, places)) (λ q d h. grind (arith, places))

pub take-overwritten : (xs ys : List ℕ) (at n : ℕ) → at + length ys ≤ n → n ≤ length xs → take n (overwritten xs at ys) ≡ overwritten (take n xs) at ys
take-overwritten xs ys at n fits room = same_lists _ _ (search (rules, places)) (λ q d h. grind (arith, places))

pub drop-overwritten : (xs ys : List ℕ) (at n : ℕ) → at + length ys ≤ n → n ≤ length xs → drop n (overwritten xs at ys) ≡ drop n xs
drop-overwritten xs ys at n fits room = same_lists _ _ (search (rules, places)) (λ q d h. grind (arith, places))
