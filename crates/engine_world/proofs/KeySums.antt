-- Sums over the numbers that are keys of a map, and over the entries of another map, taken the one way or the other.
use Rattle.std.proofs.Common.{◌≡◌, ◌≢◌, ℕ, ◌+◌, ◌*◌, ◌<◌, ◌≤◌, Bool, true, false, cond, eqb, List, [], ◌∷◌, map, length, Some, None, refl, ap, sym, subst, ◌∙◌, inl, inr, arith, true≢false}
use Rattle.std.specs.Prelude.{T, ◌&&◌, not}
use Rattle.std.specs.declared.cmp.Ordering.{Ordering}
use Rattle.std.specs.Ordering.{nat_cmp, eq_by_cmp}
use Rattle.std.specs.Option.{is_some}
use Rattle.std.specs.Cmp.{IsTotalOrder, nat_cmp_total}
use Rattle.std.specs.FinMap.{FinMap, IsAntisymmetric, get, remove, len, keys, entries, entries_sorted, contains_key, find, is_sorted, get-entries, len-entries, nat_cmp-IsAntisymmetric}
use Rattle.std.specs.FinMap.Entries.{where_key}
use Rattle.std.proofs.lemmas.Bool.{eq-eqb, ne_eqb}
use Rattle.finite_maps.specs.Maps.{sum_over, total}
use Rattle.finite_maps.specs.MapLaws.{not_Some, key_itself, key_same, find_below, entries-remove, total-remove, remove_absent, total-le}
use Rattle.engine_world.specs.Places.{one_if, occurrences}
use Rattle.engine_world.specs.OccurrenceLaws.{one_if_same, one_if_other}
use Rattle.engine_world.specs.NumberLaws.{number_cases}

-- ---- entries of a map

both_left : (a b : Bool) → T (a && b) → T a
both_left true b p = tt
both_left false b p = absurd p

both_right : (a b : Bool) → T (a && b) → T b
both_right true b p = p
both_right false b p = absurd p

module _ {K X : Type 0} {R : K → K → Ordering} (o : IsTotalOrder R) (same : IsAntisymmetric R) where
  -- entries after the first are sorted, and none has its key
  sorted_later : (e : K × X) (es : List (K × X)) → T (is_sorted R (e ∷ es)) → T (is_sorted R es)
  sorted_later e es sorted = both_right _ _ sorted

  first_absent : (e : K × X) (es : List (K × X)) → T (is_sorted R (e ∷ es)) → find R e.0 es ≡ None
  first_absent e es sorted = find_below o same e.0 es (both_left _ _ sorted)

  module _ (f g : K → X → ℕ) where
    -- what is found after an entry is found with it
    found_later : (e : K × X) (es : List (K × X)) (k : K) (x : X) → find R e.0 es ≡ None → find R k es ≡ Some x → find R k (e ∷ es) ≡ Some x
    found_later e es k x absent is = elim (eq_by_cmp R k e.0) as (λ b. eq_by_cmp R k e.0 ≡ b → cond b (Some e.1) (find R k es) ≡ Some x) [
      | true ↦ λ tie. absurd (not_Some (sym absent ∙ ap (λ q. find R q es) (sym (key_same o same k e.0 tie)) ∙ is))
      | false ↦ λ tie. is
    ] refl

    sum-le-found : (es : List (K × X)) → T (is_sorted R es) → ((k : K) (x : X) → find R k es ≡ Some x → f k x ≤ g k x) → sum_over f es ≤ sum_over g es
    sum-le-found [] sorted h = omega arith
    sum-le-found (e ∷ es) sorted h =
        let here : f e.0 e.1 ≤ g e.0 e.1 = h e.0 e.1 (ap (λ b. cond b (Some e.1) (find R e.0 es)) (key_itself o same e.0)) in
        let rest : sum_over f es ≤ sum_over g es = sum-le-found es (sorted_later e es sorted) (λ k x is. h k x (found_later e es k x (first_absent e es sorted) is)) in
        omega (arith, here, rest)

    -- numbers that are no more for each entry of a map have no more for their sum
    pub total-le-found : (m : FinMap R X) → ((k : K) (x : X) → get m k ≡ Some x → f k x ≤ g k x) → total f m ≤ total g m
    unfolding total
    total-le-found m h = sum-le-found (entries m) (entries_sorted m) (λ k x is. h k x (get-entries m k ∙ is))

    sum-add : (es : List (K × X)) → sum_over (λ k x. f k x + g k x) es ≡ sum_over f es + sum_over g es
    sum-add [] = refl
    sum-add (e ∷ es) = let rest : sum_over (λ k x. f k x + g k x) es ≡ sum_over f es + sum_over g es = sum-add es in omega (arith, rest)

    pub total-add : (m : FinMap R X) → total (λ k x. f k x + g k x) m ≡ total f m + total g m
    unfolding total
    total-add m = sum-add (entries m)

sum-ones : {K X : Type 0} (es : List (K × X)) → sum_over (λ k x. 1) es ≡ length es
sum-ones [] = refl
sum-ones (e ∷ es) = let rest : sum_over (λ k x. 1) es ≡ length es = sum-ones es in omega (arith, rest)

-- a map's entries, each counted as 1
pub total-ones : {K X : Type 0} {R : K → K → Ordering} (m : FinMap R X) → total (λ k x. 1) m ≡ len m
unfolding total
total-ones m = sum-ones (entries m) ∙ sym (len-entries m)

sum-double : {K X : Type 0} (es : List (K × X)) → sum_over (λ k x. 2) es ≡ 2 * length es
sum-double [] = refl
sum-double (e ∷ es) = let rest : sum_over (λ k x. 2) es ≡ 2 * length es = sum-double es in omega (arith, rest)

-- and as 2
pub total-double : {K X : Type 0} {R : K → K → Ordering} (m : FinMap R X) → total (λ k x. 2) m ≡ 2 * len m
unfolding total
total-double m = sum-double (entries m) ∙ ap (λ n. 2 * n) (sym (len-entries m))

sum-zero : {K X : Type 0} (es : List (K × X)) → sum_over (λ k x. 0) es ≡ 0
sum-zero [] = refl
sum-zero (e ∷ es) = let rest : sum_over (λ k x. 0) es ≡ 0 = sum-zero es in omega (arith, rest)

-- and as nothing
pub total-zero : {K X : Type 0} {R : K → K → Ordering} (m : FinMap R X) → total (λ k x. 0) m ≡ 0
unfolding total
total-zero m = sum-zero (entries m)

pub one_if_most : (t : Bool) → one_if t ≤ 1
one_if_most true = omega arith
one_if_most false = omega arith

-- ---- numbers that are keys

module _ {X : Type 0} (p : ℕ → Bool) where
  -- 1 at the entry of a number that passes
  abbrev pub stands_at : ℕ → ℕ → X → ℕ
  stands_at b k x = one_if (p k && eqb k b)

  none_other : (b : ℕ) (es : List (ℕ × X)) → sum_over (stands_at b) (where_key nat_cmp (λ x. not (eq_by_cmp nat_cmp b x)) es) ≡ 0
  none_other b [] = refl
  none_other b (e ∷ es) =
      let rest : sum_over (stands_at b) (where_key nat_cmp (λ x. not (eq_by_cmp nat_cmp b x)) es) ≡ 0 = none_other b es in
      elim (eq_by_cmp nat_cmp b e.0) as (λ t. eq_by_cmp nat_cmp b e.0 ≡ t → sum_over (stands_at b) (cond (not t) (e ∷ where_key nat_cmp (λ x. not (eq_by_cmp nat_cmp b x)) es) (where_key nat_cmp (λ x. not (eq_by_cmp nat_cmp b x)) es)) ≡ 0) [
        | true ↦ λ is. rest
        | false ↦ λ is.
            let ne : e.0 ≢ b = λ same. true≢false (sym (key_itself nat_cmp_total nat_cmp-IsAntisymmetric b) ∙ ap (eq_by_cmp nat_cmp b) (sym same) ∙ is) in
            let no : eqb e.0 b ≡ false = ne_eqb e.0 b ne in
            let zero_here : one_if (p e.0 && eqb e.0 b) ≡ 0 = ap (λ t. one_if (p e.0 && t)) no ∙ elim (p e.0) as (λ t. one_if (t && false) ≡ 0) [ true ↦ refl | false ↦ refl ] in
            omega (arith, zero_here, rest)
      ] refl

  -- a number that passes is one entry's, if it is any's
  pub stands_once : (b : ℕ) (m : FinMap nat_cmp X) → total (stands_at b) m ≡ one_if (contains_key m b && p b)
  unfolding total
  stands_once b m =
      let others : total (stands_at b) (remove m b) ≡ 0 = ap (sum_over (stands_at b)) (entries-remove nat_cmp_total nat_cmp-IsAntisymmetric m b) ∙ none_other b (entries m) in
      elim (get m b) as (λ o. get m b ≡ o → total (stands_at b) m ≡ one_if (is_some o && p b)) [
        | None ↦ λ e. ap (total (stands_at b)) (sym (remove_absent nat_cmp_total nat_cmp-IsAntisymmetric m b e)) ∙ others
        | Some x ↦ λ e.
            let all : total (stands_at b) m ≡ one_if (p b && eqb b b) + total (stands_at b) (remove m b) = total-remove nat_cmp_total nat_cmp-IsAntisymmetric (stands_at b) m b x e in
            let here : one_if (p b && eqb b b) ≡ one_if (p b) = ap (λ t. one_if (p b && t)) (eq-eqb b b refl) ∙ elim (p b) as (λ t. one_if (t && true) ≡ one_if t) [ true ↦ refl | false ↦ refl ] in
            omega (arith, all, here, others)
      ] refl

key_stands : {X : Type 0} (b : ℕ) (es : List (ℕ × X)) → occurrences b (map (λ (e : ℕ × X). e.0) es) ≡ sum_over (stands_at (λ _. true) b) es
key_stands b [] = refl
key_stands b (e ∷ es) = ap (λ n. one_if (eqb e.0 b) + n) (key_stands b es)

module _ {X : Type 0} (m : FinMap nat_cmp X) where
  key_count : (b : ℕ) → occurrences b (keys m) ≡ one_if (contains_key m b)
  unfolding total
  key_count b = key_stands b (entries m) ∙ stands_once (λ _. true) b m ∙ elim (contains_key m b) as (λ t. one_if (t && true) ≡ one_if t) [ true ↦ refl | false ↦ refl ]

  -- no number is a key twice
  pub key_once : (b : ℕ) → occurrences b (keys m) ≤ 1
  key_once b = omega (arith, key_count b, one_if_most (contains_key m b))

  -- and that of an entry is one
  pub key_there : (b : ℕ) (x : X) → get m b ≡ Some x → occurrences b (keys m) ≡ 1
  key_there b x is = key_count b ∙ ap (λ o. one_if (is_some o)) is

-- ---- sums over a list of numbers

abbrev pub sum_at : (ℕ → ℕ) → List ℕ → ℕ
sum_at f [] = 0
sum_at f (x ∷ xs) = f x + sum_at f xs

sum_at-keys : {X : Type 0} (f : ℕ → ℕ) (es : List (ℕ × X)) → sum_over (λ k x. f k) es ≡ sum_at f (map (λ (e : ℕ × X). e.0) es)
sum_at-keys f [] = refl
sum_at-keys f (e ∷ es) = ap (λ n. f e.0 + n) (sum_at-keys f es)

-- a sum over the keys of a map
pub total-keys : {X : Type 0} (f : ℕ → ℕ) (m : FinMap nat_cmp X) → total (λ k x. f k) m ≡ sum_at f (keys m)
unfolding total
total-keys f m = sum_at-keys f (entries m)

-- nothing, however often
pub sum_at-zero : (xs : List ℕ) → sum_at (λ x. 0) xs ≡ 0
sum_at-zero [] = refl
sum_at-zero (x ∷ xs) = let rest : sum_at (λ x. 0) xs ≡ 0 = sum_at-zero xs in omega (arith, rest)

sum_at-add : (f g : ℕ → ℕ) (xs : List ℕ) → sum_at (λ x. f x + g x) xs ≡ sum_at f xs + sum_at g xs
sum_at-add f g [] = refl
sum_at-add f g (x ∷ xs) = let rest : sum_at (λ x. f x + g x) xs ≡ sum_at f xs + sum_at g xs = sum_at-add f g xs in omega (arith, rest)

pub sum_at-le : (f g : ℕ → ℕ) → ((x : ℕ) → f x ≤ g x) → (xs : List ℕ) → sum_at f xs ≤ sum_at g xs
sum_at-le f g h [] = omega arith
sum_at-le f g h (x ∷ xs) = let here : f x ≤ g x = h x in let rest : sum_at f xs ≤ sum_at g xs = sum_at-le f g h xs in omega (arith, here, rest)

-- one that is less makes the sum less
pub sum_at-less : (f g : ℕ → ℕ) (y : ℕ) → ((x : ℕ) → f x ≤ g x) → f y < g y → (xs : List ℕ) → 0 < occurrences y xs → sum_at f xs < sum_at g xs
sum_at-less f g y h less [] some = absurd (omega (arith, some))
sum_at-less f g y h less (x ∷ xs) some = elim (number_cases x y) [
  | inl same ↦
      let here : f x < g x = subst (λ i. f i < g i) (sym same) less in
      let rest : sum_at f xs ≤ sum_at g xs = sum_at-le f g h xs in
      omega (arith, here, rest)
  | inr ne ↦
      let here : f x ≤ g x = h x in
      let rest : sum_at f xs < sum_at g xs = sum_at-less f g y h less xs (omega (arith, some, one_if_other x y ne)) in
      omega (arith, here, rest)
]

-- where each is at least 1, the sum is at least as many as they are
pub sum_at-many : (f : ℕ → ℕ) (xs : List ℕ) → ((x : ℕ) → 0 < occurrences x xs → 1 ≤ f x) → length xs ≤ sum_at f xs
sum_at-many f [] h = omega arith
sum_at-many f (x ∷ xs) h =
    let here : 1 ≤ f x = h x (omega (arith, one_if_same x)) in
    let rest : length xs ≤ sum_at f xs = sum_at-many f xs (λ y some. h y (omega (arith, some))) in
    omega (arith, here, rest)

one_turned : (x y : ℕ) → one_if (eqb x y) ≡ one_if (eqb y x)
one_turned x y = elim (number_cases x y) [
  | inl same ↦ ap (λ i. one_if (eqb i y)) same ∙ ap (λ i. one_if (eqb y i)) (sym same)
  | inr ne ↦ one_if_other x y ne ∙ sym (one_if_other y x (λ e. ne (sym e)))
]

-- the places where a number stands, counted from the other side
pub sum_at-one : (b : ℕ) (xs : List ℕ) → sum_at (λ x. one_if (eqb b x)) xs ≡ occurrences b xs
sum_at-one b [] = refl
sum_at-one b (x ∷ xs) = let rest : sum_at (λ x. one_if (eqb b x)) xs ≡ occurrences b xs = sum_at-one b xs in omega (arith, rest, one_turned b x)

-- ---- the one way and the other

module _ {K X : Type 0} (g : ℕ → K → X → ℕ) (xs : List ℕ) where
  sum_turned : (es : List (K × X)) → sum_at (λ n. sum_over (g n) es) xs ≡ sum_over (λ k x. sum_at (λ n. g n k x) xs) es
  sum_turned [] = sum_at-zero xs
  sum_turned (e ∷ es) = sum_at-add (λ n. g n e.0 e.1) (λ n. sum_over (g n) es) xs ∙ ap (λ n. sum_at (λ n. g n e.0 e.1) xs + n) (sum_turned es)

  pub total_turned : {R : K → K → Ordering} (m : FinMap R X) → sum_at (λ n. total (g n) m) xs ≡ total (λ k x. sum_at (λ n. g n k x) xs) m
  unfolding total
  total_turned m = sum_turned (entries m)

  -- where each entry is counted for at most one of the numbers, all are counted no more than there are entries
  pub counted_once : {R : K → K → Ordering} (m : FinMap R X) → ((k : K) (x : X) → sum_at (λ n. g n k x) xs ≤ 1) → sum_at (λ n. total (g n) m) xs ≤ len m
  counted_once m once =
      let less : total (λ k x. sum_at (λ n. g n k x) xs) m ≤ total (λ k x. 1) m = total-le (λ k x. sum_at (λ n. g n k x) xs) (λ k x. 1) m once in
      omega (arith, less, total_turned m, total-ones m)

-- Each of a list's numbers stands at one of these keys, and all keys have no more of the list than there is.
pub stand_few : (keys xs : List ℕ) → ((b : ℕ) → occurrences b keys ≤ 1) → sum_at (λ k. occurrences k xs) keys ≤ length xs
stand_few keys [] once = omega (arith, sum_at-zero keys)
stand_few keys (x ∷ xs) once =
    let rest : sum_at (λ k. occurrences k xs) keys ≤ length xs = stand_few keys xs once in
    let both : sum_at (λ k. one_if (eqb x k) + occurrences k xs) keys ≡ sum_at (λ k. one_if (eqb x k)) keys + sum_at (λ k. occurrences k xs) keys = sum_at-add (λ k. one_if (eqb x k)) (λ k. occurrences k xs) keys in
    omega (arith, rest, both, sum_at-one x keys, once x)

-- And they have all of it, where each number of the list is one of them.
pub stand_all : (keys xs : List ℕ) → ((b : ℕ) → 0 < occurrences b xs → occurrences b keys ≡ 1) → sum_at (λ k. occurrences k xs) keys ≡ length xs
stand_all keys [] there = sum_at-zero keys
stand_all keys (x ∷ xs) there =
    let rest : sum_at (λ k. occurrences k xs) keys ≡ length xs = stand_all keys xs (λ b some. there b (omega (arith, some))) in
    let both : sum_at (λ k. one_if (eqb x k) + occurrences k xs) keys ≡ sum_at (λ k. one_if (eqb x k)) keys + sum_at (λ k. occurrences k xs) keys = sum_at-add (λ k. one_if (eqb x k)) (λ k. occurrences k xs) keys in
    let here : occurrences x keys ≡ 1 = there x (omega (arith, one_if_same x)) in
    omega (arith, rest, both, sum_at-one x keys, here)
