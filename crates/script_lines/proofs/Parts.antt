-- Parts of lists.
use Rattle.std.proofs.Common.{◌≡◌, ℕ, ◌+◌, ◌-◌, ◌≤◌, List, [], ◌∷◌, ◌++◌, length, take, drop, take-take, refl, sym, ap, ◌∙◌, arith, rules}
use Rattle.std.specs.List.{copy_within}
use borrow.Rule.Slice.PartMut.{put_mid, post_of}
use Rattle.std.proofs.lemmas.List.{same_lists, places, drop-drop, length-take-le, length-drop, length-append, take-append-le}

-- a part of a part
pub part_front : (xs : List ℕ) (from to n : ℕ) → from + n ≤ to → to ≤ length xs → drop from (take (from + n) xs) ≡ take n (drop from (take to xs))
part_front xs from to n le inside = same_lists _ _ (search (rules, places)) (λ k d h. grind (arith, places))

pub part_rest : (xs : List ℕ) (from to at n : ℕ) → at ≡ from + n → at ≤ to → to ≤ length xs → drop at (take to xs) ≡ drop n (drop from (take to xs))
part_rest xs from to at n e le inside = ap (λ k. drop k (take to xs)) (e ∙ omega arith) ∙ sym (drop-drop n from (take to xs))

-- what lies within a part lies before its end
pub part_after : (xs : List ℕ) (from to n : ℕ) → from ≤ to → n ≤ length (drop from (take to xs)) → from + n ≤ to
part_after xs from to n le h = search (arith, places)

-- a part that was copied to the beginning
pub copied_front : (xs : List ℕ) (from to : ℕ) → from ≤ to → to ≤ length xs → take (to - from) (copy_within xs from to 0) ≡ drop from (take to xs)
copied_front xs from to le inside = same_lists _ _ (search (rules, places)) (λ k d h. grind (arith, places))

-- bytes written behind a part, which grows by them
pub part_grown : (xs ys : List ℕ) (from to count k : ℕ) → from ≤ to → to ≤ length xs → count ≤ length ys → drop from (take (to + count) (put_mid to k xs ys)) ≡ drop from (take to xs) ++ take count ys
part_grown xs ys from to count k le inside fits = same_lists _ _ (search (rules, places)) (λ q d h. grind (arith, places))

pub length_part : (xs : List ℕ) (from to : ℕ) → to ≤ length xs → length (drop from (take to xs)) ≡ to - from
length_part xs from to inside = omega (arith, length-drop from (take to xs), length-take-le to xs inside)

pub empty_list : (xs : List ℕ) → length xs ≡ 0 → xs ≡ []
empty_list [] e = refl
empty_list (x ∷ xs) e = absurd (omega arith)

-- bytes written behind a part of a whole that was lent as a slice
pub part_back : (xs lent ys : List ℕ) (from to count len k : ℕ) → lent ≡ xs → from ≤ to → to ≤ length xs → to + count ≤ len → count ≤ length ys
    → drop from (take (to + count) (take len (put_mid to k lent ys ++ drop (length (put_mid to k lent ys)) xs))) ≡ drop from (take to xs) ++ take count ys
part_back xs lent ys from to count len k same le within inside fits =
    let put = put_mid to k lent ys in
    let lent_within : to ≤ length lent = omega (arith, ap length same) in
    let long : to + count ≤ length put = omega (arith, length-append (take to lent) (ys ++ post_of to k lent), length-append ys (post_of to k lent), length-take-le to lent lent_within) in
    ap (drop from) (take-take (to + count) len (put ++ drop (length put) xs) inside ∙ take-append-le (to + count) put (drop (length put) xs) long)
    ∙ part_grown lent ys from to count k le lent_within fits ∙ ap (λ l. drop from (take to l) ++ take count ys) same
