-- The vector's list and the set that it is.
use Rattle.std.proofs.Common.{◌≡◌, ◌≢◌, ℕ, ◌+◌, ◌≤◌, Bool, true, false, cond, List, [], ◌∷◌, ◌++◌, length, Some, None, refl, ap, sym, subst, ◌∙◌, inl, inr, arith, eqb}
use Rattle.std.specs.Prelude.{not, ◌&&◌, ◌||◌, ◌↔◌, ◌⊎◌, IsSome, IsTrue}
use Rattle.std.specs.declared.option.Option.{Option}
use Rattle.std.specs.List.{list_any, find}
use Rattle.std.specs.Ordering.{nat_cmp, eq_by_cmp}
use Rattle.std.specs.FinMap as map
use Rattle.std.specs.FinSet.{contains, empty, contains-empty, insert, remove, len, from_list, nat_cmp-IsAntisymmetric, contains-from_list_nat, contains-insert, contains-remove, len-insert, len-empty, same_set, from_list_push}
use Rattle.std.specs.Cmp.{unsigned_tied}
use Rattle.std.proofs.lemmas.Cmp.{nat_cmp_total}
use Rattle.std.proofs.lemmas.Bool.{eqb-true, eq-eqb}
use Rattle.cache_key.specs.Key.{Key, same_key}
use Rattle.cache_key.specs.KeyOf.{KeyMap}
use Rattle.finite_maps.specs.MapLaws.{not_Some, same_Some}
use Rattle.active_resources.specs.Actives.{Numbers, Fits, IsActiveAt, without}
use Rattle.active_resources.specs.ActiveView.{AllApart}
use Rattle.active_resources.specs.inside.Numbers.{is_key, has_key, others, left_of}

contrary : {b : Bool} → b ≡ false → b ≡ true → ⊥
contrary {b = b} isnt is = cc

or_false : (a b : Bool) → (a || b) ≡ false → (a ≡ false) × (b ≡ false)
or_false true b e = cc
or_false false b e = (refl, e)

pub or_true : (a b : Bool) → (a || b) ≡ true → (a ≡ true) ⊎ (b ≡ true)
or_true true b e = inl refl
or_true false b e = inr e

and_true : (a b : Bool) → (a && b) ≡ true → (a ≡ true) × (b ≡ true)
and_true true b e = (refl, e)
and_true false b e = cc

same_test : (a b : Bool) → (a ≡ true → b ≡ true) → (b ≡ true → a ≡ true) → a ≡ b
same_test true true f g = refl
same_test true false f g = sym (f refl)
same_test false true f g = g refl
same_test false false f g = refl

tied : (q k : ℕ) → eq_by_cmp nat_cmp q k ≡ eqb q k
tied q k = unsigned_tied q k

and_none : (a : Bool) → (a && false) ≡ false
and_none true = refl
and_none false = refl

or_one : (a : Bool) → (a || true) ≡ true
or_one true = refl
or_one false = refl

pub not_of : (b : Bool) → not b ≡ true → b ≡ false
not_of true e = cc
not_of false e = refl

other_way : (x k : ℕ) → eqb x k ≡ false → eqb k x ≡ false
other_way x k e = elim (eqb k x) as (λ t. eqb k x ≡ t → t ≡ false) [ true ↦ λ is. absurd (contrary e (eq-eqb x k (sym (eqb-true _ _ is)))) | false ↦ λ isnt. refl ] refl

any-push : (q k : ℕ) (ks : List ℕ) → eqb k q ≡ false → list_any (λ y. eqb y q) ks ≡ false → list_any (λ y. eqb y q) (ks ++ k ∷ []) ≡ false
any-push q k [] other none = ap (λ b. b || false) other
any-push q k (x ∷ ks) other none = let split = or_false _ _ none in ap (λ b. b || list_any (λ y. eqb y q) (ks ++ k ∷ [])) split.0 ∙ any-push q k ks other split.1

-- ---- the list

any-others : (q k : ℕ) (ks : List ℕ) → list_any (λ y. eqb y q) (others k ks) ≡ (not (eqb q k) && list_any (λ y. eqb y q) ks)
any-others q k [] = elim (eqb q k) as (λ t. false ≡ (not t && false)) [ true ↦ refl | false ↦ refl ]
any-others q k (x ∷ ks) =
    let rest = any-others q k ks in
    elim (eqb x k) as (λ t. eqb x k ≡ t → list_any (λ y. eqb y q) (cond (not t) (x ∷ others k ks) (others k ks)) ≡ (not (eqb q k) && (eqb x q || list_any (λ y. eqb y q) ks))) [
      | true ↦ λ is. rest ∙ elim (eqb x q) as (λ t. eqb x q ≡ t → (not (eqb q k) && list_any (λ y. eqb y q) ks) ≡ (not (eqb q k) && (t || list_any (λ y. eqb y q) ks))) [
        | true ↦ λ also.
            let x_k : x ≡ k = eqb-true _ _ is in
            let x_q : x ≡ q = eqb-true _ _ also in
            let q_k : eqb q k ≡ true = eq-eqb q k (sym x_q ∙ x_k) in
            ap (λ b. not b && list_any (λ y. eqb y q) ks) q_k ∙ sym (ap (λ b. not b && true) q_k)
        | false ↦ λ other. refl
      ] refl
      | false ↦ λ isnt. elim (eqb x q) as (λ t. eqb x q ≡ t → (t || list_any (λ y. eqb y q) (others k ks)) ≡ (not (eqb q k) && (t || list_any (λ y. eqb y q) ks))) [
        | true ↦ λ also.
            let x_q : x ≡ q = eqb-true _ _ also in
            let q_k : eqb q k ≡ false = ap (λ y. eqb y k) (sym x_q) ∙ isnt in
            sym (ap (λ b. not b && true) q_k)
        | false ↦ λ other. rest
      ] refl
    ] refl

pub apart-others : (k : ℕ) (ks : List ℕ) → AllApart ks → AllApart (others k ks)
apart-others k [] h = tt
apart-others k (x ∷ ks) h =
    let rest = apart-others k ks h.1 in
    elim (eqb x k) as (λ t. AllApart (cond (not t) (x ∷ others k ks) (others k ks))) [
      | true ↦ rest
      | false ↦ (any-others x k ks ∙ ap (λ b. not (eqb x k) && b) h.0 ∙ and_none (not (eqb x k)), rest)
    ]

pub few-others : (k : ℕ) (ks : List ℕ) → length (others k ks) ≤ length ks
few-others k [] = omega arith
few-others k (x ∷ ks) =
    let rest : length (others k ks) ≤ length ks = few-others k ks in
    elim (eqb x k) as (λ t. length (cond (not t) (x ∷ others k ks) (others k ks)) ≤ length (x ∷ ks)) [ true ↦ omega (arith, rest) | false ↦ omega (arith, rest) ]

pub apart-push : (k : ℕ) (ks : List ℕ) → list_any (λ y. eqb y k) ks ≡ false → AllApart ks → AllApart (ks ++ k ∷ [])
apart-push k [] lacks h = (refl, tt)
apart-push k (x ∷ ks) lacks h =
    let split = or_false _ _ lacks in
    (any-push x k ks (other_way x k split.0) h.0, apart-push k ks split.1 h.1)

-- ---- the set

pub set-others : (k : ℕ) (ks : List ℕ) → from_list {R = nat_cmp} (others k ks) ≡ remove (from_list ks) k
set-others k ks = same_set nat_cmp_total nat_cmp-IsAntisymmetric _ _ (λ q.
    contains-from_list_nat (others k ks) q ∙ any-others q k ks
    ∙ sym (contains-remove nat_cmp_total (from_list ks) k q ∙ (λ i. not (tied q k i) && contains-from_list_nat ks q i)))

pub len-apart : (ks : List ℕ) → AllApart ks → len (from_list {R = nat_cmp} ks) ≡ length ks
len-apart [] h = len-empty nat_cmp
len-apart (k ∷ ks) h =
    let absent : contains (from_list {R = nat_cmp} ks) k ≡ false = contains-from_list_nat ks k ∙ h.0 in
    let rest : len (from_list {R = nat_cmp} ks) ≡ length ks = len-apart ks h.1 in
    let one : len (insert (from_list {R = nat_cmp} ks) k) ≡ len (from_list {R = nat_cmp} ks) + 1 = len-insert nat_cmp_total (from_list ks) k ∙ ap (λ b. cond b (len (from_list {R = nat_cmp} ks)) (len (from_list {R = nat_cmp} ks) + 1)) absent in
    omega (arith, rest, one)

pub set-push : (k : ℕ) (ks : List ℕ) → from_list {R = nat_cmp} (ks ++ k ∷ []) ≡ insert (from_list ks) k
set-push k ks = from_list_push nat_cmp_total nat_cmp-IsAntisymmetric ks k

-- ---- what a walk finds

find-some : (p : ℕ → Bool) (n : ℕ) (ks : List ℕ) → find p ks ≡ Some n → (list_any (λ y. eqb y n) ks ≡ true) × (p n ≡ true)
find-some p n [] is = absurd (not_Some is)
find-some p n (k ∷ ks) is = elim (p k) as (λ t. p k ≡ t → cond t (Some k) (find p ks) ≡ Some n → ((eqb k n || list_any (λ y. eqb y n) ks) ≡ true) × (p n ≡ true)) [
  | true ↦ λ pass is. let at : k ≡ n = same_Some _ _ is in (ap (λ b. b || list_any (λ y. eqb y n) ks) (eq-eqb k n at), ap p (sym at) ∙ pass)
  | false ↦ λ fails is. let rest = find-some p n ks is in (ap (λ b. eqb k n || b) rest.0 ∙ or_one (eqb k n), rest.1)
] refl is

find-none : (p : ℕ → Bool) (n : ℕ) (ks : List ℕ) → find p ks ≡ None → list_any (λ y. eqb y n) ks ≡ true → p n ≡ false
find-none p n [] none is = cc
find-none p n (k ∷ ks) none is = elim (p k) as (λ t. p k ≡ t → cond t (Some k) (find p ks) ≡ None → p n ≡ false) [
  | true ↦ λ pass none. absurd (not_Some (sym none))
  | false ↦ λ fails none. elim (or_true _ _ is) [
    | inl here ↦ let at : k ≡ n = eqb-true _ _ here in ap p (sym at) ∙ fails
    | inr later ↦ find-none p n ks none later
  ]
] refl none

-- that two keys are the same exactly where they are equal
abbrev pub KeyLaw : Type 0
KeyLaw = (a b : Key) → IsTrue (same_key a b) ↔ (a ≡ b)

module _ (law : KeyLaw) (keys : KeyMap) (key : Key) where
  key_has : (x : Option Key) → is_key key x ≡ true → x ≡ Some key
  key_has None e = cc
  key_has (Some other) e = ap Some ((law other key).0 e)

  has_it : (x : Option Key) → x ≡ Some key → is_key key x ≡ true
  has_it x e = ap (is_key key) e ∙ (law key key).1 refl

  pub found-it : (ks : List ℕ) (numbers : Numbers) → from_list ks ≡ numbers → Fits keys numbers → (result : Option ℕ) → result ≡ find (has_key keys key) ks
      → (number : ℕ) → (result ≡ Some number) ↔ IsActiveAt keys (Some key) numbers number
  found-it ks numbers same fits result is number =
      let member : (n : ℕ) → contains numbers n ≡ list_any (λ y. eqb y n) ks = λ n. ap (λ s. contains s n) (sym same) ∙ contains-from_list_nat ks n in (
        λ some. let found = find-some (has_key keys key) number ks (sym is ∙ some) in (member number ∙ found.0, key_has (map.get keys number) found.1),
        λ at. is ∙ elim (find (has_key keys key) ks) as (λ x. find (has_key keys key) ks ≡ x → x ≡ Some number) [
          | None ↦ λ none. absurd (contrary (find-none (has_key keys key) number ks none (sym (member number) ∙ at.0)) (has_it (map.get keys number) at.1))
          | Some other ↦ λ some.
              let found = find-some (has_key keys key) other ks some in
              ap Some (fits.apart other number (member other ∙ found.0) at.0 (key_has (map.get keys other) found.1 ∙ sym at.1))
        ] refl,
      )

  pub found-none : (ks : List ℕ) (numbers : Numbers) → from_list ks ≡ numbers → (result : Option ℕ) → result ≡ find (has_key keys key) ks
      → (result ≡ None) ↔ ((number : ℕ) → ¬ (IsActiveAt keys (Some key) numbers number))
  found-none ks numbers same result is =
      let member : (n : ℕ) → contains numbers n ≡ list_any (λ y. eqb y n) ks = λ n. ap (λ s. contains s n) (sym same) ∙ contains-from_list_nat ks n in (
        λ none number at. contrary (find-none (has_key keys key) number ks (sym is ∙ none) (sym (member number) ∙ at.0)) (has_it (map.get keys number) at.1),
        λ nobody. is ∙ elim (find (has_key keys key) ks) as (λ x. find (has_key keys key) ks ≡ x → x ≡ None) [
          | None ↦ λ e. refl
          | Some other ↦ λ some. let found = find-some (has_key keys key) other ks some in absurd (nobody other (member other ∙ found.0, key_has (map.get keys other) found.1))
        ] refl,
      )

-- ---- fitting the keys

pub fits-same : (keys changed : KeyMap) (numbers : Numbers) → Fits keys numbers → ((n : ℕ) → contains numbers n ≡ true → map.get changed n ≡ map.get keys n) → Fits changed numbers
fits-same keys changed numbers fits same = record {
  known = λ n has. subst IsSome (sym (same n has)) (fits.known n has);
  apart = λ a b in_a in_b e. fits.apart a b in_a in_b (sym (same a in_a) ∙ e ∙ same b in_b);
}

pub fits-fewer : (keys : KeyMap) (numbers fewer : Numbers) → Fits keys numbers → ((n : ℕ) → contains fewer n ≡ true → contains numbers n ≡ true) → Fits keys fewer
fits-fewer keys numbers fewer fits within = record {
  known = λ n has. fits.known n (within n has);
  apart = λ a b in_a in_b e. fits.apart a b (within a in_a) (within b in_b) e;
}

pub within-remove : (numbers : Numbers) (k n : ℕ) → contains (remove numbers k) n ≡ true → (n ≢ k) × (contains numbers n ≡ true)
within-remove numbers k n has =
    let both = and_true _ _ (sym (contains-remove nat_cmp_total numbers k n) ∙ has) in
    (λ e. contrary (not_of (eqb n k) (ap not (sym (tied n k)) ∙ both.0)) (eq-eqb n k e), both.1)

pub within-insert : (numbers : Numbers) (k n : ℕ) → contains (insert numbers k) n ≡ true → (n ≡ k) ⊎ (contains numbers n ≡ true)
within-insert numbers k n has = elim (or_true _ _ (sym (contains-insert nat_cmp_total numbers k n) ∙ has)) [
  | inl is ↦ inl (eqb-true _ _ (sym (tied n k) ∙ is))
  | inr was ↦ inr was
]

-- what is left without the one that is replaced
within-without : (numbers : Numbers) (replaced : Option ℕ) (n : ℕ) → contains (without replaced numbers) n ≡ true → (contains numbers n ≡ true) × (replaced ≢ Some n)
within-without numbers None n has = (has, λ e. not_Some e)
within-without numbers (Some k) n has = let left = within-remove numbers k n has in (left.1, λ e. left.0 (sym (same_Some _ _ e)))

pub fits-activate : (keys : KeyMap) (numbers : Numbers) (replaced : Option ℕ) (k : ℕ) → Fits keys numbers → IsSome (map.get keys k)
    → ((other : ℕ) → (replaced ≡ Some other) ↔ IsActiveAt keys (map.get keys k) numbers other) → Fits keys (insert (without replaced numbers) k)
fits-activate keys numbers replaced k fits known it =
    let was : (n : ℕ) → contains (insert (without replaced numbers) k) n ≡ true → (n ≡ k) ⊎ ((contains numbers n ≡ true) × (replaced ≢ Some n)) =
    λ n has. elim (within-insert (without replaced numbers) k n has) [ inl is ↦ inl is | inr left ↦ inr (within-without numbers replaced n left) ] in
    record {
      known = λ n has. elim (was n has) [ inl is ↦ subst (λ m. IsSome (map.get keys m)) (sym is) known | inr left ↦ fits.known n left.0 ];
      apart = λ a b in_a in_b e. elim (was a in_a) [
        | inl a_is ↦ elim (was b in_b) [
          | inl b_is ↦ a_is ∙ sym b_is
          | inr b_left ↦ absurd (b_left.1 ((it b).1 (b_left.0, sym e ∙ ap (map.get keys) a_is)))
        ]
        | inr a_left ↦ elim (was b in_b) [
          | inl b_is ↦ absurd (a_left.1 ((it a).1 (a_left.0, e ∙ ap (map.get keys) b_is)))
          | inr b_left ↦ fits.apart a b a_left.0 b_left.0 e
        ]
      ];
    }

pub other_member : (numbers : Numbers) (number n : ℕ) → contains numbers number ≡ false → contains numbers n ≡ true → n ≢ number
other_member numbers number n absent has e = contrary absent (subst (λ m. contains numbers m ≡ true) e has)

-- ---- a number taken out where there is one to take

pub set-left : (r : Option ℕ) (ks : List ℕ) → from_list {R = nat_cmp} (left_of r ks) ≡ without r (from_list ks)
set-left None ks = refl
set-left (Some k) ks = set-others k ks

pub apart-left : (r : Option ℕ) (ks : List ℕ) → AllApart ks → AllApart (left_of r ks)
apart-left None ks h = h
apart-left (Some k) ks h = apart-others k ks h

pub few-left : (r : Option ℕ) (ks : List ℕ) → length (left_of r ks) ≤ length ks
few-left None ks = omega arith
few-left (Some k) ks = few-others k ks

pub absent-left : (r : Option ℕ) (ks : List ℕ) (q : ℕ) → list_any (λ y. eqb y q) ks ≡ false → list_any (λ y. eqb y q) (left_of r ks) ≡ false
absent-left None ks q lacks = lacks
absent-left (Some k) ks q lacks = any-others q k ks ∙ ap (λ b. not (eqb q k) && b) lacks ∙ and_none (not (eqb q k))

-- the keys of what is in the list are known
pub known-list : (keys : KeyMap) (ks ds : List ℕ) (numbers : Numbers) → from_list ks ≡ numbers → ds ≡ ks → Fits keys numbers
    → (n : ℕ) → list_any (λ y. eqb y n) ds ≡ true → IsSome (map.get keys n)
known-list keys ks ds numbers same is fits n has =
    fits.known n (ap (λ s. contains s n) (sym same) ∙ contains-from_list_nat ks n ∙ ap (list_any (λ y. eqb y n)) (sym is) ∙ has)

-- ---- no number

nobody : (n : ℕ) → contains (empty {R = nat_cmp}) n ≡ true → ⊥
nobody n has = contrary (contains-empty nat_cmp n) has

-- A table with no number fits all keys.
pub fits-empty : (keys : KeyMap) → Fits keys empty
fits-empty keys = record {
  known = λ n has. absurd (nobody n has);
  apart = λ a b in_a in_b e. absurd (nobody a in_a);
}
