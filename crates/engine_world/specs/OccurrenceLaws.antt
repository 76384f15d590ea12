-- How often a number stands in a list, and what is found in lists and sets of numbers. It is plain mathematics.
use Rattle.std.proofs.Common.{◌≡◌, ◌≢◌, ℕ, ◌+◌, ◌<◌, ◌≤◌, Bool, true, false, cond, eqb, List, [], ◌∷◌, ◌++◌, Some, None, refl, ap, sym, ◌∙◌, arith}
use Rattle.std.specs.Prelude.{◌||◌, not, find}
use Rattle.std.specs.List.{list_any}
use Rattle.std.specs.Ordering.{nat_cmp, eq_by_cmp}
use Rattle.std.specs.Cmp.{nat_cmp_total}
use Rattle.std.specs.FinMap.{nat_cmp-IsAntisymmetric}
use Rattle.std.specs.FinSet as set
use Rattle.std.proofs.lemmas.Bool.{eqb-true, eq-eqb, ne_eqb}
use Rattle.finite_maps.specs.MapLaws.{not_Some, same_Some, key_same, key_itself}
use Rattle.active_resources.specs.Actives.{Numbers}
use Rattle.engine_world.specs.Places.{one_if, occurrences}
use Rattle.engine_world.specs.Moves.{without}

pub one_if_same : (x : ℕ) → one_if (eqb x x) ≡ 1
one_if_same x = ap one_if (eq-eqb x x refl)

pub one_if_other : (x y : ℕ) → x ≢ y → one_if (eqb x y) ≡ 0
one_if_other x y ne = ap one_if (ne_eqb x y ne)

pub occurrences-append : (b : ℕ) (xs ys : List ℕ) → occurrences b (xs ++ ys) ≡ occurrences b xs + occurrences b ys
occurrences-append b [] ys = omega arith
occurrences-append b (x ∷ xs) ys = let rest : occurrences b (xs ++ ys) ≡ occurrences b xs + occurrences b ys = occurrences-append b xs ys in omega arith

-- ---- without a number

pub without_same : (r : ℕ) (xs : List ℕ) → occurrences r (without r xs) ≡ 0
without_same r [] = refl
without_same r (x ∷ xs) = elim (eqb x r) as (λ b. eqb x r ≡ b → occurrences r (cond (not b) (x ∷ without r xs) (without r xs)) ≡ 0) [
  | true ↦ λ e. without_same r xs
  | false ↦ λ e. let here : one_if (eqb x r) ≡ 0 = ap one_if e in let rest : occurrences r (without r xs) ≡ 0 = without_same r xs in omega arith
] refl

pub without_other : (b r : ℕ) (xs : List ℕ) → b ≢ r → occurrences b (without r xs) ≡ occurrences b xs
without_other b r [] ne = refl
without_other b r (x ∷ xs) ne = elim (eqb x r) as (λ t. eqb x r ≡ t → occurrences b (cond (not t) (x ∷ without r xs) (without r xs)) ≡ occurrences b (x ∷ xs)) [
  | true ↦ λ e. let here : one_if (eqb x b) ≡ 0 = one_if_other x b (λ is. ne (sym is ∙ eqb-true x r e)) in let rest : occurrences b (without r xs) ≡ occurrences b xs = without_other b r xs ne in omega arith
  | false ↦ λ e. ap (λ n. one_if (eqb x b) + n) (without_other b r xs ne)
] refl

pub without-le : (b r : ℕ) (xs : List ℕ) → occurrences b (without r xs) ≤ occurrences b xs
without-le b r [] = omega arith
without-le b r (x ∷ xs) = elim (eqb x r) as (λ t. occurrences b (cond (not t) (x ∷ without r xs) (without r xs)) ≤ occurrences b (x ∷ xs)) [
  | true ↦ let rest : occurrences b (without r xs) ≤ occurrences b xs = without-le b r xs in omega arith
  | false ↦ let rest : occurrences b (without r xs) ≤ occurrences b xs = without-le b r xs in omega arith
]

-- ---- looking in a list

pub find-passes : (p : ℕ → Bool) (xs : List ℕ) (r : ℕ) → find p xs ≡ Some r → (p r ≡ true) × (0 < occurrences r xs)
find-passes p [] r e = absurd (not_Some e)
find-passes p (x ∷ xs) r e = elim (p x) as (λ b. p x ≡ b → cond b (Some x) (find p xs) ≡ Some r → (p r ≡ true) × (0 < occurrences r (x ∷ xs))) [
  | true ↦ λ t e.
      let same : x ≡ r = same_Some _ _ e in
      let here : one_if (eqb x r) ≡ 1 = ap (λ n. one_if (eqb n r)) same ∙ one_if_same r in
      (ap p (sym same) ∙ t, omega (arith, here))
  | false ↦ λ t e. let rest = find-passes p xs r e in let there : 0 < occurrences r xs = rest.1 in (rest.0, omega (arith, there))
] refl e

pub find-none : (p : ℕ → Bool) (xs : List ℕ) (r : ℕ) → find p xs ≡ None → 0 < occurrences r xs → p r ≡ false
find-none p [] r e some = absurd (omega (arith, some))
find-none p (x ∷ xs) r e some = elim (p x) as (λ b. p x ≡ b → cond b (Some x) (find p xs) ≡ None → p r ≡ false) [
  | true ↦ λ t e. absurd (not_Some (sym e))
  | false ↦ λ t e. elim (eqb x r) as (λ b. eqb x r ≡ b → p r ≡ false) [
    | true ↦ λ same. ap p (sym (eqb-true x r same)) ∙ t
    | false ↦ λ other. let here : one_if (eqb x r) ≡ 0 = ap one_if other in find-none p xs r e (omega (arith, some, here))
  ] refl
] refl e

-- ---- and among the items of a set

any_stands : (r : ℕ) (xs : List ℕ) → list_any (eq_by_cmp nat_cmp r) xs ≡ true → 0 < occurrences r xs
any_stands r [] e = cc
any_stands r (x ∷ xs) e = elim (eq_by_cmp nat_cmp r x) as (λ b. eq_by_cmp nat_cmp r x ≡ b → (b || list_any (eq_by_cmp nat_cmp r) xs) ≡ true → 0 < occurrences r (x ∷ xs)) [
  | true ↦ λ t e.
      let same : r ≡ x = key_same nat_cmp_total nat_cmp-IsAntisymmetric r x t in
      let here : one_if (eqb x r) ≡ 1 = ap (λ n. one_if (eqb n r)) (sym same) ∙ one_if_same r in
      omega (arith, here)
  | false ↦ λ t e. let there : 0 < occurrences r xs = any_stands r xs e in omega (arith, there)
] refl e

stands_any : (r : ℕ) (xs : List ℕ) → 0 < occurrences r xs → list_any (eq_by_cmp nat_cmp r) xs ≡ true
stands_any r [] some = absurd (omega (arith, some))
stands_any r (x ∷ xs) some = elim (eqb x r) as (λ b. eqb x r ≡ b → (eq_by_cmp nat_cmp r x || list_any (eq_by_cmp nat_cmp r) xs) ≡ true) [
  | true ↦ λ e. ap (λ b. b || list_any (eq_by_cmp nat_cmp r) xs) (ap (eq_by_cmp nat_cmp r) (eqb-true x r e) ∙ key_itself nat_cmp_total nat_cmp-IsAntisymmetric r)
  | false ↦ λ e. let here : one_if (eqb x r) ≡ 0 = ap one_if e in
      elim (eq_by_cmp nat_cmp r x) as (λ b. (b || list_any (eq_by_cmp nat_cmp r) xs) ≡ true) [ true ↦ refl | false ↦ stands_any r xs (omega (arith, some, here)) ]
] refl

pub item_stands : (s : Numbers) (r : ℕ) → set.contains s r ≡ true → 0 < occurrences r (set.items s)
item_stands s r e = any_stands r (set.items s) (sym (set.contains-items s r) ∙ e)

pub stands_item : (s : Numbers) (r : ℕ) → 0 < occurrences r (set.items s) → set.contains s r ≡ true
stands_item s r some = set.contains-items s r ∙ stands_any r (set.items s) some
