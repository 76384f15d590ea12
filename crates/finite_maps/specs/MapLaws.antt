-- Laws of finite maps, where only equal keys tie: what is found after a change, how a sum changes, and what the least key is. They are plain mathematics.
use Rattle.std.proofs.Common.{◌≡◌, ◌≢◌, ℕ, ◌+◌, ◌≤◌, Bool, true, false, cond, List, [], ◌∷◌, map, Some, None, refl, ap, sym, subst, ◌∙◌, inl, inr, arith}
use Rattle.std.proofs.Math.Facts.{and_yes, yes_and}
use Rattle.std.proofs.lemmas.Bool.{both_ways}
use Rattle.std.specs.Prelude.{T, not, ◌⊎◌, ◌↔◌, unwrap_or, is_some}
use Rattle.std.specs.declared.option.Option.{Option}
use Rattle.std.specs.declared.cmp.Ordering.{Ordering}
use Rattle.std.specs.declared.cmp.Ordering.TheVariants.{Less, Equal, Greater}
use Rattle.std.specs.Ordering.{eq_by_cmp, is_eq, is_lt, ordering_reverse}
use Rattle.std.specs.Option.{option_map}
use Rattle.std.specs.Cmp.{IsTotalOrder, eq_by_cmp_equiv}
use Rattle.std.specs.FinMap.{FinMap, IsAntisymmetric, get, insert, remove, entries, from_sorted, find, is_sorted, entries_sorted, get-entries, entries-from_sorted, get-from_sorted, get-insert, get-remove, same_map}
use Rattle.std.specs.FinMap.Entries.{where_key, below_all, find-where_key, is_sorted-where_key}
use Rattle.finite_maps.specs.Maps.{sum_over, first_in, total, first_key, map_values, modify, passes}

-- ---- the laws

-- a new entry adds its number to the sum
abbrev pub TotalOfInsert : (K X : Type 0) → Type 0
TotalOfInsert K X = (R : K → K → Ordering) → IsTotalOrder R → IsAntisymmetric R → (f : K → X → ℕ) (m : FinMap R X) (k : K) (v : X)
    → get m k ≡ None → total f (insert m k v) ≡ f k v + total f m

-- a new value at a key gives its number for the old one's
abbrev pub TotalOfReplace : (K X : Type 0) → Type 0
TotalOfReplace K X = (R : K → K → Ordering) → IsTotalOrder R → IsAntisymmetric R → (f : K → X → ℕ) (m : FinMap R X) (k : K) (u v : X)
    → get m k ≡ Some u → total f (insert m k v) + f k u ≡ total f m + f k v

-- an entry that goes takes its number with it
abbrev pub TotalOfRemove : (K X : Type 0) → Type 0
TotalOfRemove K X = (R : K → K → Ordering) → IsTotalOrder R → IsAntisymmetric R → (f : K → X → ℕ) (m : FinMap R X) (k : K) (v : X)
    → get m k ≡ Some v → total f m ≡ f k v + total f (remove m k)

-- k's entry passes, and that of no lesser key does
abbrev pub IsLeast : {K X : Type 0} {R : K → K → Ordering} → (K → X → Bool) → FinMap R X → K → Type 0
IsLeast {K} {R = R} p m k = (passes p k (get m k) ≡ true) × ((j : K) → passes p j (get m j) ≡ true → is_lt (R j k) ≡ false)

-- the first key is the least that passes
abbrev pub FirstIsLeast : (K X : Type 0) → Type 0
FirstIsLeast K X = (R : K → K → Ordering) → IsTotalOrder R → IsAntisymmetric R → (p : K → X → Bool) (m : FinMap R X) (k : K)
    → (first_key p m ≡ Some k) ↔ IsLeast p m k

-- and there is none exactly where no entry passes
abbrev pub NoneIsFirst : (K X : Type 0) → Type 0
NoneIsFirst K X = (R : K → K → Ordering) → IsTotalOrder R → IsAntisymmetric R → (p : K → X → Bool) (m : FinMap R X)
    → (first_key p m ≡ None) ↔ ((k : K) → passes p k (get m k) ≡ false)

-- what is found where each value was changed
abbrev pub FoundChanged : (K X Y : Type 0) → Type 0
FoundChanged K X Y = (R : K → K → Ordering) (f : X → Y) (m : FinMap R X) (k : K) → get (map_values f m) k ≡ option_map f (get m k)

-- and the sum of what it was changed to
abbrev pub TotalOfChanged : (K X Y : Type 0) → Type 0
TotalOfChanged K X Y = (R : K → K → Ordering) (f : X → Y) (g : K → Y → ℕ) (m : FinMap R X) → total g (map_values f m) ≡ total (λ k x. g k (f x)) m

-- where one value was changed, it is found at its key, and what was there at each other
abbrev pub FoundModified : (K X : Type 0) → Type 0
FoundModified K X = (R : K → K → Ordering) → IsTotalOrder R → IsAntisymmetric R → (m : FinMap R X) (k q : K) (f : X → X)
    → get (modify m k f) q ≡ cond (eq_by_cmp R q k) (option_map f (get m q)) (get m q)

-- ---- small facts

pub not_Some : {A : Type 0} {x : A} → None ≢ Some x
not_Some {x = x} e = subst (λ o. T (not (is_some o))) e tt

pub same_Some : {A : Type 0} (x y : A) → Some x ≡ Some y → x ≡ y
same_Some x y e = ap (λ o. unwrap_or o x) e

equal : (r : Ordering) → is_eq r ≡ true → r ≡ Equal
equal Less e = cc
equal Equal e = refl
equal Greater e = cc

less : (r : Ordering) → T (is_lt r) → is_eq r ≡ false
less Less p = refl
less Equal p = absurd p
less Greater p = absurd p

pub is_less : (r : Ordering) → T (is_lt r) → r ≡ Less
is_less Less p = refl
is_less Equal p = absurd p
is_less Greater p = absurd p

neither : (r : Ordering) → is_lt r ≡ false → is_lt (ordering_reverse r) ≡ false → r ≡ Equal
neither Less a b = cc
neither Equal a b = refl
neither Greater a b = cc

turned : {A : Type 0} (b : Bool) (x y : A) → cond (not b) x y ≡ cond b y x
turned true x y = refl
turned false x y = refl

module _ {K : Type 0} {R : K → K → Ordering} (o : IsTotalOrder R) (same : IsAntisymmetric R) where
  -- ---- keys

  pub key_itself : (k : K) → eq_by_cmp R k k ≡ true
  key_itself k = (eq_by_cmp_equiv o).refl k

  pub key_same : (q k : K) → eq_by_cmp R q k ≡ true → q ≡ k
  key_same q k e = same q k (equal (R q k) e)

  key_apart : (q k : K) (b : Bool) → eq_by_cmp R q k ≡ b → q ≢ k → b ≡ false
  key_apart q k true e ne = absurd (ne (key_same q k e))
  key_apart q k false e ne = refl

  pub key_other : (q k : K) → q ≢ k → eq_by_cmp R q k ≡ false
  key_other q k ne = key_apart q k _ refl ne

  pub key_cases : (q k : K) → (q ≡ k) ⊎ (q ≢ k)
  key_cases q k = elim (eq_by_cmp R q k) as (λ b. eq_by_cmp R q k ≡ b → (q ≡ k) ⊎ (q ≢ k)) [
    | true ↦ λ e. inl (key_same q k e)
    | false ↦ λ e. inr (λ is. subst (λ b. T (not b)) (sym e ∙ ap (λ p. eq_by_cmp R q p) (sym is) ∙ key_itself q) tt)
  ] refl

module _ {K X : Type 0} {R : K → K → Ordering} (o : IsTotalOrder R) (same : IsAntisymmetric R) where
  -- ---- what is found

  pub get-insert_same : (m : FinMap R X) (k : K) (v : X) → get (insert m k v) k ≡ Some v
  get-insert_same m k v = get-insert o m k v k ∙ ap (λ b. cond b (Some v) (get m k)) (key_itself o same k)

  pub get-insert_other : (m : FinMap R X) (k : K) (v : X) (q : K) → q ≢ k → get (insert m k v) q ≡ get m q
  get-insert_other m k v q ne = get-insert o m k v q ∙ ap (λ b. cond b (Some v) (get m q)) (key_other o same q k ne)

  pub get-remove_same : (m : FinMap R X) (k : K) → get (remove m k) k ≡ None
  get-remove_same m k = get-remove o m k k ∙ ap (λ b. cond b None (get m k)) (key_itself o same k)

  pub get-remove_other : (m : FinMap R X) (k : K) (q : K) → q ≢ k → get (remove m k) q ≡ get m q
  get-remove_other m k q ne = get-remove o m k q ∙ ap (λ b. cond b None (get m q)) (key_other o same q k ne)

  -- what is found after an insert is the new value, or was there
  pub insert_cases : (m : FinMap R X) (k : K) (v : X) (q : K) (x : X) → get (insert m k v) q ≡ Some x → ((q ≡ k) × (v ≡ x)) ⊎ ((q ≢ k) × (get m q ≡ Some x))
  insert_cases m k v q x e = elim (key_cases o same q k) [
    | inl is ↦ inl (is, same_Some v x (sym (get-insert_same m k v) ∙ ap (get (insert m k v)) (sym is) ∙ e))
    | inr ne ↦ inr (ne, sym (get-insert_other m k v q ne) ∙ e)
  ]

  -- what is found after a removal was there, at another key
  pub remove_found : (m : FinMap R X) (k : K) (q : K) (x : X) → get (remove m k) q ≡ Some x → (q ≢ k) × (get m q ≡ Some x)
  remove_found m k q x e = elim (key_cases o same q k) [
    | inl is ↦ absurd (not_Some (sym (get-remove_same m k) ∙ ap (get (remove m k)) (sym is) ∙ e))
    | inr ne ↦ (ne, sym (get-remove_other m k q ne) ∙ e)
  ]

  -- ---- one value changed

  -- where the map has the key, the changed value is put
  pub modify_there : (m : FinMap R X) (k : K) (f : X → X) (v : X) → get m k ≡ Some v → modify m k f ≡ insert m k (f v)
  unfolding modify
  modify_there m k f v is = ap (λ x. Rattle.finite_maps.specs.Maps.put_some m k (option_map f x)) is

  -- where it has not, it stays
  pub modify_absent : (m : FinMap R X) (k : K) (f : X → X) → get m k ≡ None → modify m k f ≡ m
  unfolding modify
  modify_absent m k f none = ap (λ x. Rattle.finite_maps.specs.Maps.put_some m k (option_map f x)) none

  pub get-modify : (m : FinMap R X) (k q : K) (f : X → X) → get (modify m k f) q ≡ cond (eq_by_cmp R q k) (option_map f (get m q)) (get m q)
  get-modify m k q f = elim (get m k) as (λ x. get m k ≡ x → get (modify m k f) q ≡ cond (eq_by_cmp R q k) (option_map f (get m q)) (get m q)) [
    | None ↦ λ none. ap (λ n. get n q) (modify_absent m k f none) ∙ elim (key_cases o same q k) [
      | inl is ↦
          let here : get m q ≡ None = ap (get m) is ∙ none in
          here ∙ sym (ap (λ b. cond b (option_map f (get m q)) (get m q)) (ap (λ j. eq_by_cmp R j k) is ∙ key_itself o same k) ∙ ap (option_map f) here)
      | inr ne ↦ sym (ap (λ b. cond b (option_map f (get m q)) (get m q)) (key_other o same q k ne))
    ]
    | Some v ↦ λ there. ap (λ n. get n q) (modify_there m k f v there) ∙ elim (key_cases o same q k) [
      | inl is ↦
          let here : get m q ≡ Some v = ap (get m) is ∙ there in
          ap (get (insert m k (f v))) is ∙ get-insert_same m k (f v)
          ∙ sym (ap (λ b. cond b (option_map f (get m q)) (get m q)) (ap (λ j. eq_by_cmp R j k) is ∙ key_itself o same k) ∙ ap (option_map f) here)
      | inr ne ↦ get-insert_other m k (f v) q ne ∙ sym (ap (λ b. cond b (option_map f (get m q)) (get m q)) (key_other o same q k ne))
    ]
  ] refl

  -- ---- the entries after a removal

  pub entries-remove : (m : FinMap R X) (k : K) → entries (remove m k) ≡ where_key R (λ x. not (eq_by_cmp R k x)) (entries m)
  entries-remove m k =
      let p : K → Bool = λ x. not (eq_by_cmp R k x) in
      let es = where_key R p (entries m) in
      let h : T (is_sorted R es) = is_sorted-where_key R p (entries m) (entries_sorted m) in
      let alike : (q : K) → get (remove m k) q ≡ get (from_sorted {R = R} es) q = λ q.
      get-remove o m k q
      ∙ ap (λ b. cond b None (get m q)) ((eq_by_cmp_equiv o).symm q k)
      ∙ sym (turned (eq_by_cmp R k q) (get m q) None)
      ∙ ap (λ x. cond (p q) x None) (get-entries m q)
      ∙ sym (find-where_key R p q (λ x t. ap p (sym (same q x t))) (entries m))
      ∙ sym (get-from_sorted R es q h) in
      ap entries (same_map o same (remove m k) (from_sorted es) alike) ∙ entries-from_sorted R es h

  -- ---- sums

  -- where no key ties with k, all entries stay
  all_stay : (k : K) (es : List (K × X)) → T (below_all R k es) → where_key R (λ x. not (eq_by_cmp R k x)) es ≡ es
  all_stay k [] h = refl
  all_stay k (e ∷ es) h =
      ap (λ b. cond (not b) (e ∷ where_key R (λ x. not (eq_by_cmp R k x)) es) (where_key R (λ x. not (eq_by_cmp R k x)) es)) (less _ (and_yes _ _ h).0)
      ∙ ap (λ l. e ∷ l) (all_stay k es (and_yes _ _ h).1)

  below_same : (k j : K) (es : List (K × X)) → j ≡ k → T (below_all R j es) → T (below_all R k es)
  below_same k j es e h = subst (λ i. T (below_all R i es)) e h

  removed_again : (m : FinMap R X) (k : K) (v : X) → get m k ≡ None → remove (insert m k v) k ≡ m
  removed_again m k v none = same_map o same _ _ (λ q. elim (key_cases o same q k) [
    | inl is ↦ ap (get (remove (insert m k v) k)) is ∙ get-remove_same _ k ∙ sym none ∙ ap (get m) (sym is)
    | inr ne ↦ get-remove_other _ k q ne ∙ get-insert_other m k v q ne
  ])

  replaced_again : (m : FinMap R X) (k : K) (v : X) → remove (insert m k v) k ≡ remove m k
  replaced_again m k v = same_map o same _ _ (λ q. elim (key_cases o same q k) [
    | inl is ↦ ap (get (remove (insert m k v) k)) is ∙ get-remove_same _ k ∙ sym (get-remove_same m k) ∙ ap (get (remove m k)) (sym is)
    | inr ne ↦ get-remove_other _ k q ne ∙ get-insert_other m k v q ne ∙ sym (get-remove_other m k q ne)
  ])

  -- a key that is not there is not removed
  pub remove_absent : (m : FinMap R X) (k : K) → get m k ≡ None → remove m k ≡ m
  remove_absent m k none = same_map o same _ _ (λ q. elim (key_cases o same q k) [
    | inl is ↦ ap (get (remove m k)) is ∙ get-remove_same m k ∙ sym none ∙ ap (get m) (sym is)
    | inr ne ↦ get-remove_other m k q ne
  ])

  module _ (f : K → X → ℕ) where
    sum_without : (k : K) (v : X) (es : List (K × X)) → T (is_sorted R es) → find R k es ≡ Some v
        → sum_over f es ≡ f k v + sum_over f (where_key R (λ x. not (eq_by_cmp R k x)) es)
    sum_without k v [] h is = absurd (not_Some is)
    sum_without k v (e ∷ es) h is =
        let rest = where_key R (λ x. not (eq_by_cmp R k x)) es in
        elim (eq_by_cmp R k e.0) as (λ b. eq_by_cmp R k e.0 ≡ b → cond b (Some e.1) (find R k es) ≡ Some v → f e.0 e.1 + sum_over f es ≡ f k v + sum_over f (cond (not b) (e ∷ rest) rest)) [
          | true ↦ λ t is.
              let stays : rest ≡ es = all_stay k es (below_same k e.0 es (sym (key_same o same k e.0 t)) (and_yes _ _ h).0) in
              ap (λ j. f j e.1 + sum_over f es) (sym (key_same o same k e.0 t)) ∙ ap (λ x. f k x + sum_over f es) (same_Some e.1 v is) ∙ ap (λ l. f k v + sum_over f l) (sym stays)
          | false ↦ λ t is. let rec : sum_over f es ≡ f k v + sum_over f rest = sum_without k v es (and_yes _ _ h).1 is in omega (arith, rec)
        ] refl is

    pub total-remove : (m : FinMap R X) (k : K) (v : X) → get m k ≡ Some v → total f m ≡ f k v + total f (remove m k)
    unfolding total
    total-remove m k v is = sum_without k v (entries m) (entries_sorted m) (sym (get-entries m k) ∙ is) ∙ ap (λ es. f k v + sum_over f es) (sym (entries-remove m k))

    pub total-insert_new : (m : FinMap R X) (k : K) (v : X) → get m k ≡ None → total f (insert m k v) ≡ f k v + total f m
    total-insert_new m k v none = total-remove (insert m k v) k v (get-insert_same m k v) ∙ ap (λ n. f k v + total f n) (removed_again m k v none)

    pub total-insert_over : (m : FinMap R X) (k : K) (u v : X) → get m k ≡ Some u → total f (insert m k v) + f k u ≡ total f m + f k v
    total-insert_over m k u v is =
        let new : total f (insert m k v) ≡ f k v + total f (remove m k) = total-remove (insert m k v) k v (get-insert_same m k v) ∙ ap (λ n. f k v + total f n) (replaced_again m k v) in
        let old : total f m ≡ f k u + total f (remove m k) = total-remove m k u is in
        omega (arith, new, old)

    -- each entry's number is within the sum
    pub le-total : (m : FinMap R X) (k : K) (v : X) → get m k ≡ Some v → f k v ≤ total f m
    le-total m k v is = omega (arith, total-remove m k v is)

-- ---- the first key that passes

module _ {K X : Type 0} {R : K → K → Ordering} (o : IsTotalOrder R) (same : IsAntisymmetric R) where
  pub find_below : (q : K) (es : List (K × X)) → T (below_all R q es) → find R q es ≡ None
  find_below q [] h = refl
  find_below q (e ∷ es) h = ap (λ b. cond b (Some e.1) (find R q es)) (less _ (and_yes _ _ h).0) ∙ find_below q es (and_yes _ _ h).1

  find_later : (k : K) (v : X) (e : K × X) (es : List (K × X)) → T (below_all R e.0 es) → find R k es ≡ Some v → find R k (e ∷ es) ≡ Some v
  find_later k v e es h is = elim (eq_by_cmp R k e.0) as (λ b. eq_by_cmp R k e.0 ≡ b → cond b (Some e.1) (find R k es) ≡ Some v) [
    | true ↦ λ t. absurd (not_Some (sym (find_below e.0 es h) ∙ ap (λ q. find R q es) (sym (key_same o same k e.0 t)) ∙ is))
    | false ↦ λ t. is
  ] refl

  module _ (p : K → X → Bool) where
    first_in_found : (k : K) (es : List (K × X)) → T (is_sorted R es) → first_in p es ≡ Some k → (v : X) × (find R k es ≡ Some v) × (p k v ≡ true)
    first_in_found k [] h is = absurd (not_Some is)
    first_in_found k (e ∷ es) h is = elim (p e.0 e.1) as (λ b. p e.0 e.1 ≡ b → cond b (Some e.0) (first_in p es) ≡ Some k → (v : X) × (find R k (e ∷ es) ≡ Some v) × (p k v ≡ true)) [
      | true ↦ λ t is.
          let at : e.0 ≡ k = same_Some _ _ is in
          (e.1, ap (λ b. cond b (Some e.1) (find R k es)) (ap (λ q. eq_by_cmp R q e.0) (sym at) ∙ key_itself o same e.0), ap (λ q. p q e.1) (sym at) ∙ t)
      | false ↦ λ t is. let rest = first_in_found k es (and_yes _ _ h).1 is in (rest.0, find_later k rest.0 e es (and_yes _ _ h).0 rest.1, rest.2)
    ] refl is

    pub first_key-found : (m : FinMap R X) (k : K) → first_key p m ≡ Some k → (v : X) × (get m k ≡ Some v) × (p k v ≡ true)
    unfolding first_key
    first_key-found m k is = let found = first_in_found k (entries m) (entries_sorted m) is in (found.0, get-entries m k ∙ found.1, found.2)

    first_in_none : (k : K) (v : X) (es : List (K × X)) → first_in p es ≡ None → find R k es ≡ Some v → p k v ≡ false
    first_in_none k v [] none is = absurd (not_Some is)
    first_in_none k v (e ∷ es) none is = elim (p e.0 e.1) as (λ b. p e.0 e.1 ≡ b → cond b (Some e.0) (first_in p es) ≡ None → p k v ≡ false) [
      | true ↦ λ t none. absurd (not_Some (sym none))
      | false ↦ λ t none. elim (eq_by_cmp R k e.0) as (λ b. eq_by_cmp R k e.0 ≡ b → cond b (Some e.1) (find R k es) ≡ Some v → p k v ≡ false) [
        | true ↦ λ at is. ap (λ x. p k x) (sym (same_Some _ _ is)) ∙ ap (λ q. p q e.1) (key_same o same k e.0 at) ∙ t
        | false ↦ λ at is. first_in_none k v es none is
      ] refl is
    ] refl none

    pub first_key-none : (m : FinMap R X) (k : K) (v : X) → first_key p m ≡ None → get m k ≡ Some v → p k v ≡ false
    unfolding first_key
    first_key-none m k v none is = first_in_none k v (entries m) none (sym (get-entries m k) ∙ is)

    -- a key that is found above another is greater
    found_above : (x j : K) (v : X) (es : List (K × X)) → T (below_all R x es) → find R j es ≡ Some v → R x j ≡ Less
    found_above x j v [] h is = absurd (not_Some is)
    found_above x j v (e ∷ es) h is = elim (eq_by_cmp R j e.0) as (λ b. eq_by_cmp R j e.0 ≡ b → cond b (Some e.1) (find R j es) ≡ Some v → R x j ≡ Less) [
      | true ↦ λ at is. ap (R x) (key_same o same j e.0 at) ∙ is_less _ (and_yes _ _ h).0
      | false ↦ λ at is. found_above x j v es (and_yes _ _ h).1 is
    ] refl is

    -- no key below the first passes
    below_first : (j k : K) (v : X) (es : List (K × X)) → T (is_sorted R es) → first_in p es ≡ Some k → find R j es ≡ Some v → p j v ≡ true → is_lt (R j k) ≡ false
    below_first j k v [] h first is pass = absurd (not_Some is)
    below_first j k v (e ∷ es) h first is pass = elim (p e.0 e.1) as (λ b. p e.0 e.1 ≡ b → cond b (Some e.0) (first_in p es) ≡ Some k → is_lt (R j k) ≡ false) [
      | true ↦ λ t first.
          let at : e.0 ≡ k = same_Some _ _ first in
          elim (eq_by_cmp R j e.0) as (λ b. eq_by_cmp R j e.0 ≡ b → cond b (Some e.1) (find R j es) ≡ Some v → is_lt (R j k) ≡ false) [
            | true ↦ λ is_e is. ap (λ x. is_lt (R j x)) (sym at) ∙ ap is_lt (equal _ is_e)
            | false ↦ λ not_e is. ap (λ x. is_lt (R j x)) (sym at) ∙ ap is_lt (o.antisymm j e.0 ∙ ap ordering_reverse (found_above e.0 j v es (and_yes _ _ h).0 is))
          ] refl is
      | false ↦ λ t first. elim (eq_by_cmp R j e.0) as (λ b. eq_by_cmp R j e.0 ≡ b → cond b (Some e.1) (find R j es) ≡ Some v → is_lt (R j k) ≡ false) [
        | true ↦ λ is_e is. absurd (both_ways _ (sym (ap (λ x. p j x) (same_Some e.1 v is)) ∙ ap (λ q. p q e.1) (key_same o same j e.0 is_e) ∙ t) pass)
        | false ↦ λ not_e is. below_first j k v es (and_yes _ _ h).1 first is pass
      ] refl is
    ] refl first

    passes_there : (k : K) (x : Option X) → passes p k x ≡ true → (v : X) × (x ≡ Some v) × (p k v ≡ true)
    passes_there k None pass = absurd (both_ways _ refl pass)
    passes_there k (Some v) pass = (v, refl, pass)

    pub first_key-least : (m : FinMap R X) (k : K) → first_key p m ≡ Some k → IsLeast p m k
    unfolding first_key
    first_key-least m k first =
        let found = first_key-found m k first in (
          ap (passes p k) found.1 ∙ found.2,
          λ j pass. let there = passes_there j (get m j) pass in below_first j k there.0 (entries m) (entries_sorted m) first (sym (get-entries m j) ∙ there.1) there.2,
        )

    pub least-first_key : (m : FinMap R X) (k : K) → IsLeast p m k → first_key p m ≡ Some k
    least-first_key m k least =
        let there = passes_there k (get m k) least.0 in
        elim (first_key p m) as (λ x. first_key p m ≡ x → x ≡ Some k) [
          | None ↦ λ none. absurd (both_ways _ (first_key-none m k there.0 none there.1) there.2)
          | Some i ↦ λ first.
              let found = first_key-least m i first in
              ap Some (same i k (neither _ (least.1 i found.0) (ap is_lt (sym (o.antisymm k i)) ∙ found.1 k least.0)))
        ] refl

    pub none-first_key : (m : FinMap R X) → ((k : K) → passes p k (get m k) ≡ false) → first_key p m ≡ None
    none-first_key m none = elim (first_key p m) as (λ x. first_key p m ≡ x → x ≡ None) [
      | None ↦ λ e. refl
      | Some i ↦ λ first. absurd (both_ways _ (none i) (first_key-least m i first).0)
    ] refl

    pub first_key-none_passes : (m : FinMap R X) (k : K) → first_key p m ≡ None → passes p k (get m k) ≡ false
    first_key-none_passes m k none = elim (get m k) as (λ x. get m k ≡ x → passes p k x ≡ false) [
      | None ↦ λ e. refl
      | Some v ↦ λ is. first_key-none m k v none is
    ] refl

-- ---- maps with each value changed

sum-map : {K X Y : Type 0} (f : X → Y) (g : K → Y → ℕ) (es : List (K × X)) → sum_over g (map (λ (e : K × X). (e.0, f e.1)) es) ≡ sum_over (λ k x. g k (f x)) es
sum-map f g [] = refl
sum-map f g (e ∷ es) = ap (λ n. g e.0 (f e.1) + n) (sum-map f g es)

module _ {K X Y : Type 0} (R : K → K → Ordering) (f : X → Y) where
  below-map : (q : K) (es : List (K × X)) → T (below_all R q es) → T (below_all R q (map (λ (e : K × X). (e.0, f e.1)) es))
  below-map q [] h = tt
  below-map q (e ∷ es) h = yes_and _ _ (and_yes _ _ h).0 (below-map q es (and_yes _ _ h).1)

  sorted-map : (es : List (K × X)) → T (is_sorted R es) → T (is_sorted R (map (λ (e : K × X). (e.0, f e.1)) es))
  sorted-map [] h = tt
  sorted-map (e ∷ es) h = yes_and _ _ (below-map e.0 es (and_yes _ _ h).0) (sorted-map es (and_yes _ _ h).1)

  find-map : (q : K) (es : List (K × X)) → find R q (map (λ (e : K × X). (e.0, f e.1)) es) ≡ option_map f (find R q es)
  find-map q [] = refl
  find-map q (e ∷ es) = elim (eq_by_cmp R q e.0) as (λ b. cond b (Some (f e.1)) (find R q (map (λ (e : K × X). (e.0, f e.1)) es)) ≡ option_map f (cond b (Some e.1) (find R q es))) [ true ↦ refl | false ↦ find-map q es ]

  pub get-map_values : (m : FinMap R X) (q : K) → get (map_values f m) q ≡ option_map f (get m q)
  unfolding map_values
  get-map_values m q = get-from_sorted R _ q (sorted-map (entries m) (entries_sorted m)) ∙ find-map q (entries m) ∙ ap (option_map f) (sym (get-entries m q))

  pub total-map_values : (g : K → Y → ℕ) (m : FinMap R X) → total g (map_values f m) ≡ total (λ k x. g k (f x)) m
  unfolding map_values total
  total-map_values g m = ap (sum_over g) (entries-from_sorted R _ (sorted-map (entries m) (entries_sorted m))) ∙ sum-map f g (entries m)

module _ {K X : Type 0} (f g : K → X → ℕ) where
  sum-same : ((k : K) (x : X) → f k x ≡ g k x) → (es : List (K × X)) → sum_over f es ≡ sum_over g es
  sum-same h [] = refl
  sum-same h (e ∷ es) = let rest : sum_over f es ≡ sum_over g es = sum-same h es in let here : f e.0 e.1 ≡ g e.0 e.1 = h e.0 e.1 in omega (arith, rest, here)

  sum-le : ((k : K) (x : X) → f k x ≤ g k x) → (es : List (K × X)) → sum_over f es ≤ sum_over g es
  sum-le h [] = omega arith
  sum-le h (e ∷ es) = let rest : sum_over f es ≤ sum_over g es = sum-le h es in let here : f e.0 e.1 ≤ g e.0 e.1 = h e.0 e.1 in omega (arith, rest, here)

  -- equal numbers have equal sums, and lesser ones lesser
  pub total-same : {R : K → K → Ordering} (m : FinMap R X) → ((k : K) (x : X) → f k x ≡ g k x) → total f m ≡ total g m
  unfolding total
  total-same m h = sum-same h (entries m)

  pub total-le : {R : K → K → Ordering} (m : FinMap R X) → ((k : K) (x : X) → f k x ≤ g k x) → total f m ≤ total g m
  unfolding total
  total-le m h = sum-le h (entries m)
