-- Lists without the last that passes a test.
use Rattle.std.proofs.Common.{◌≡◌, ℕ, ◌+◌, ◌-◌, ◌<◌, ◌≤◌, Bool, true, false, cond, List, [], ◌∷◌, length, take, drop, map, get_or, Some, refl, ap, sym, ◌∙◌, arith, zero, suc}
use Rattle.std.specs.Prelude.{◌||◌, filter, slice_get, sum_by}
use Rattle.std.proofs.lemmas.List.Sums.{sum_by-cons}
use Rattle.std.specs.List.{list_any, remove}
use Rattle.bitmap_pool.specs.Pool.{without_last}

pub or_left : (a b : Bool) → (a || b) ≡ false → a ≡ false
or_left true b e = cc
or_left false b e = refl

pub or_right : (a b : Bool) → (a || b) ≡ false → b ≡ false
or_right true b e = cc
or_right false b e = e

module _ {A : Type 0} (p : A → Bool) where
  pub without_none : (xs : List A) → list_any p xs ≡ false → without_last p xs ≡ xs
  without_none [] e = refl
  without_none (x ∷ xs) e =
      ap (λ t. cond t (x ∷ without_last p xs) (cond (p x) xs (x ∷ xs))) (or_right (p x) _ e)
      ∙ ap (λ t. cond t xs (x ∷ xs)) (or_left (p x) _ e)

  pub any_at : (xs : List A) (i : ℕ) (d : A) → i < length xs → p (get_or xs i d) ≡ true → list_any p xs ≡ true
  any_at [] i d less e = absurd (omega (arith, less))
  any_at (x ∷ xs) zero d less e = ap (λ t. t || list_any p xs) e
  any_at (x ∷ xs) (suc i) d less e = elim (p x) as (λ t. (t || list_any p xs) ≡ true) [ true ↦ refl | false ↦ any_at xs i d (omega (arith, less)) e ]

  -- the last that passes stands at a place that passes and behind which none does
  pub without_last_at : (xs : List A) (i : ℕ) (d : A) → i < length xs → p (get_or xs i d) ≡ true → list_any p (drop (i + 1) xs) ≡ false → remove xs i ≡ without_last p xs
  without_last_at [] i d less e none = absurd (omega (arith, less))
  without_last_at (x ∷ xs) zero d less e none = sym (
      ap (λ t. cond t (x ∷ without_last p xs) (cond (p x) xs (x ∷ xs))) none
      ∙ ap (λ t. cond t xs (x ∷ xs)) e)
  without_last_at (x ∷ xs) (suc i) d less e none =
      let within : i < length xs = omega (arith, less) in
      let one_more : suc (i + 1) ≡ suc i + 1 = omega arith in
      let later : list_any p (drop (i + 1) xs) ≡ false = ap (λ n. list_any p (drop n (x ∷ xs))) one_more ∙ none in
      sym (ap (λ t. cond t (x ∷ without_last p xs) (cond (p x) xs (x ∷ xs))) (any_at xs i d within e)
      ∙ ap (λ l. x ∷ l) (sym (without_last_at xs i d within e later)))

  -- where none passes, none is left by a filter
  pub filter_none : (xs : List A) → list_any p xs ≡ false → filter p xs ≡ []
  filter_none [] e = refl
  filter_none (x ∷ xs) e = ap (λ t. cond t (x ∷ filter p xs) (filter p xs)) (or_left (p x) _ e) ∙ filter_none xs (or_right (p x) _ e)

  pub some_filter : (xs : List A) → list_any p xs ≡ true → 0 < length (filter p xs)
  some_filter [] e = cc
  some_filter (x ∷ xs) e = elim (p x) as (λ t. (t || list_any p xs) ≡ true → 0 < length (cond t (x ∷ filter p xs) (filter p xs))) [
    | true ↦ λ e. omega arith
    | false ↦ λ e. some_filter xs e
  ] e

  -- of those that pass, all but the last are left
  pub filter_without_last : (xs : List A) → filter p (without_last p xs) ≡ take (length (filter p xs) - 1) (filter p xs)
  filter_without_last [] = refl
  filter_without_last (x ∷ xs) = elim (list_any p xs) as (λ t. list_any p xs ≡ t → filter p (cond t (x ∷ without_last p xs) (cond (p x) xs (x ∷ xs))) ≡ take (length (filter p (x ∷ xs)) - 1) (filter p (x ∷ xs))) [
    | true ↦ λ any.
        let some : 0 < length (filter p xs) = some_filter xs any in
        let rest : filter p (without_last p xs) ≡ take (length (filter p xs) - 1) (filter p xs) = filter_without_last xs in
        elim (p x) as (λ t. cond t (x ∷ filter p (without_last p xs)) (filter p (without_last p xs)) ≡ take (length (cond t (x ∷ filter p xs) (filter p xs)) - 1) (cond t (x ∷ filter p xs) (filter p xs))) [
          | true ↦
              let long : length (x ∷ filter p xs) - 1 ≡ suc (length (filter p xs) - 1) = omega (arith, some) in
              ap (λ l. x ∷ l) rest ∙ sym (ap (λ n. take n (x ∷ filter p xs)) long)
          | false ↦ rest
        ]
    | false ↦ λ none.
        let nothing : filter p xs ≡ [] = filter_none xs none in
        elim (p x) as (λ t. p x ≡ t → filter p (cond t xs (x ∷ xs)) ≡ take (length (cond t (x ∷ filter p xs) (filter p xs)) - 1) (cond t (x ∷ filter p xs) (filter p xs))) [
          | true ↦ λ is. nothing ∙ sym (ap (λ (l : List A). take (length (x ∷ l) - 1) (x ∷ l)) nothing ∙ ap (λ n. take n (x ∷ [])) (let z : length (x ∷ []) - 1 ≡ 0 = omega arith in z))
          | false ↦ λ is. ap (λ t. cond t (x ∷ filter p xs) (filter p xs)) is ∙ nothing ∙ sym (ap (λ (l : List A). take (length l - 1) l) nothing ∙ (let z : take (length (let e : List A = [] in e) - 1) (let e : List A = [] in e) ≡ [] = ap (λ n. take n (let e : List A = [] in e)) (let y : length (let e : List A = [] in e) - 1 ≡ 0 = omega arith in y) in z))
        ] refl
  ] refl

  -- a test that fails wherever this one passes keeps what it kept
  pub filter_other : (q : A → Bool) → ((x : A) → p x ≡ true → q x ≡ false) → (xs : List A) → filter q (without_last p xs) ≡ filter q xs
  filter_other q apart [] = refl
  filter_other q apart (x ∷ xs) = elim (list_any p xs) as (λ t. filter q (cond t (x ∷ without_last p xs) (cond (p x) xs (x ∷ xs))) ≡ filter q (x ∷ xs)) [
    | true ↦ ap (λ l. cond (q x) (x ∷ l) l) (filter_other q apart xs)
    | false ↦ elim (p x) as (λ t. p x ≡ t → filter q (cond t xs (x ∷ xs)) ≡ filter q (x ∷ xs)) [
      | true ↦ λ is. sym (ap (λ t. cond t (x ∷ filter q xs) (filter q xs)) (apart x is))
      | false ↦ λ is. refl
    ] refl
  ]

  pub length_without_last : (xs : List A) → list_any p xs ≡ true → length (without_last p xs) + 1 ≡ length xs
  length_without_last [] e = cc
  length_without_last (x ∷ xs) e = elim (list_any p xs) as (λ t. list_any p xs ≡ t → length (cond t (x ∷ without_last p xs) (cond (p x) xs (x ∷ xs))) + 1 ≡ length (x ∷ xs)) [
    | true ↦ λ any. let rest : length (without_last p xs) + 1 ≡ length xs = length_without_last xs any in omega (arith, rest)
    | false ↦ λ none. elim (p x) as (λ t. (t || list_any p xs) ≡ true → length (cond t xs (x ∷ xs)) + 1 ≡ length (x ∷ xs)) [
      | true ↦ λ e. omega arith
      | false ↦ λ e. let no : true ≡ false = sym e ∙ none in cc
    ] e
  ] refl

  pub length_without_last-le : (xs : List A) → length (without_last p xs) ≤ length xs
  length_without_last-le xs = elim (list_any p xs) as (λ t. list_any p xs ≡ t → length (without_last p xs) ≤ length xs) [
    | true ↦ λ e. let less : length (without_last p xs) + 1 ≡ length xs = length_without_last xs e in omega (arith, less)
    | false ↦ λ e. let same : length (without_last p xs) ≡ length xs = ap length (without_none xs e) in omega (arith, same)
  ] refl

  pub sum_without_last-le : (f : A → ℕ) (xs : List A) → sum_by f (without_last p xs) ≤ sum_by f xs
  sum_without_last-le f [] = omega arith
  sum_without_last-le f (x ∷ xs) =
      let rest : sum_by f (without_last p xs) ≤ sum_by f xs = sum_without_last-le f xs in
      let sum : sum_by f (x ∷ xs) ≡ f x + sum_by f xs = sum_by-cons f x xs in
      let less : sum_by f (x ∷ without_last p xs) ≡ f x + sum_by f (without_last p xs) = sum_by-cons f x (without_last p xs) in
      elim (list_any p xs) as (λ t. sum_by f (cond t (x ∷ without_last p xs) (cond (p x) xs (x ∷ xs))) ≤ sum_by f (x ∷ xs)) [
        | true ↦ omega (arith, rest, sum, less)
        | false ↦ elim (p x) as (λ t. sum_by f (cond t xs (x ∷ xs)) ≤ sum_by f (x ∷ xs)) [ true ↦ omega (arith, sum) | false ↦ omega arith ]
      ]

  -- the last of those that pass
  pub last_passing : (xs : List A) (i : ℕ) (d : A) → i < length xs → p (get_or xs i d) ≡ true → list_any p (drop (i + 1) xs) ≡ false → slice_get (filter p xs) (length (filter p xs) - 1) ≡ Some (get_or xs i d)
  last_passing [] i d less e none = absurd (omega (arith, less))
  last_passing (x ∷ xs) zero d less e none =
      let one : filter p (x ∷ xs) ≡ x ∷ [] = ap (λ t. cond t (x ∷ filter p xs) (filter p xs)) e ∙ ap (λ l. x ∷ l) (filter_none xs none) in
      ap (λ (l : List A). slice_get l (length l - 1)) one ∙ ap (slice_get (x ∷ [])) (let z : length (x ∷ []) - 1 ≡ 0 = omega arith in z)
  last_passing (x ∷ xs) (suc i) d less e none =
      let within : i < length xs = omega (arith, less) in
      let one_more : suc (i + 1) ≡ suc i + 1 = omega arith in
      let later : list_any p (drop (i + 1) xs) ≡ false = ap (λ n. list_any p (drop n (x ∷ xs))) one_more ∙ none in
      let some : 0 < length (filter p xs) = some_filter xs (any_at xs i d within e) in
      let rest : slice_get (filter p xs) (length (filter p xs) - 1) ≡ Some (get_or xs i d) = last_passing xs i d within e later in
      elim (p x) as (λ t. slice_get (cond t (x ∷ filter p xs) (filter p xs)) (length (cond t (x ∷ filter p xs) (filter p xs)) - 1) ≡ Some (get_or xs i d)) [
        | true ↦ let long : length (x ∷ filter p xs) - 1 ≡ suc (length (filter p xs) - 1) = omega (arith, some) in ap (slice_get (x ∷ filter p xs)) long ∙ rest
        | false ↦ rest
      ]

module _ {A B : Type 0} (f : A → B) (p : B → Bool) where
  any_of_map : (xs : List A) → list_any p (map f xs) ≡ list_any (λ x. p (f x)) xs
  any_of_map [] = refl
  any_of_map (x ∷ xs) = ap (λ t. p (f x) || t) (any_of_map xs)

  map_cond : (t : Bool) (xs ys : List A) → cond t (map f xs) (map f ys) ≡ map f (cond t xs ys)
  map_cond true xs ys = refl
  map_cond false xs ys = refl

  pub without_last_of_map : (xs : List A) → without_last p (map f xs) ≡ map f (without_last (λ x. p (f x)) xs)
  without_last_of_map [] = refl
  without_last_of_map (x ∷ xs) =
      ap (λ t. cond t (f x ∷ without_last p (map f xs)) (cond (p (f x)) (map f xs) (f x ∷ map f xs))) (any_of_map xs)
      ∙ ap (λ l. cond (list_any (λ x. p (f x)) xs) (f x ∷ l) (cond (p (f x)) (map f xs) (f x ∷ map f xs))) (without_last_of_map xs)
      ∙ ap (λ l. cond (list_any (λ x. p (f x)) xs) (f x ∷ map f (without_last (λ x. p (f x)) xs)) l) (map_cond (p (f x)) xs (x ∷ xs))
      ∙ map_cond (list_any (λ x. p (f x)) xs) (x ∷ without_last (λ x. p (f x)) xs) (cond (p (f x)) xs (x ∷ xs))

  pub filter_of_map : (xs : List A) → filter p (map f xs) ≡ map f (filter (λ x. p (f x)) xs)
  filter_of_map [] = refl
  filter_of_map (x ∷ xs) = ap (λ l. cond (p (f x)) (f x ∷ l) l) (filter_of_map xs) ∙ map_cond (p (f x)) (x ∷ filter (λ x. p (f x)) xs) (filter (λ x. p (f x)) xs)
