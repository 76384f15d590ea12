-- Lists that are read by `get_elem?`.
use Rattle.std.proofs.Common.{◌≡◌, ◌≢◌, ℕ, zero, suc, ◌+◌, ◌<◌, ◌≤◌, ◌⊎◌, List, [], ◌∷◌, ◌++◌, length, set, get_or, Option, Some, refl, sym, ap, ◌∙◌, subst, ⊎_elim, inl, inr, arith, append_assoc, length-append, All, sum_by}
use Rattle.std.proofs.lemmas.List.{append-nil}
use Rattle.std.proofs.lemmas.List.Sums.{sum_by-cons, sum_by-set, sum_by-le, get_or-le-sum_by}
use mathlib.Core.Option.{some, some-ne-none, some-injective}
use mathlib.Core.List.{IsPrefix}
use lib.ListN.{get_elem?}
use Rattle.atomic_table.specs.Table.{rest}
use Rattle.atomic_table.proofs.Lists.{at_set, at_snoc}
use Rattle.turn_lock.specs.inside.Rule.{Each, EachTwo}

module _ {A : Type 0} where
  pub each_set : (P : A → Type 0) (xs : List A) (id : ℕ) (a : A) → ((j : ℕ) (y : A) → j ≢ id → get_elem? xs j ≡ some y → P y) → P a → Each P (set xs id a)
  each_set P xs id a others here j y e =
      ⊎_elim
      (λ (t : (j ≡ id) × (a ≡ y)). subst P t.1 here)
      (λ (t : (j ≢ id) × (get_elem? xs j ≡ some y)). others j y t.0 t.1)
      (at_set xs id j a y e)

  pub two_set : (R : A → A → Type 0) (xs : List A) (id : ℕ) (a : A) → EachTwo R xs → ((j : ℕ) (y : A) → j ≢ id → get_elem? xs j ≡ some y → R a y × R y a) → EachTwo R (set xs id a)
  two_set R xs id a h here i j x y ne ei ej =
      ⊎_elim
      (λ (s : (i ≡ id) × (a ≡ x)). ⊎_elim
      (λ (t : (j ≡ id) × (a ≡ y)). absurd (ne (s.0 ∙ sym t.0)))
      (λ (t : (j ≢ id) × (get_elem? xs j ≡ some y)). subst (λ z. R z y) s.1 (here j y t.0 t.1).0)
      (at_set xs id j a y ej))
      (λ (s : (i ≢ id) × (get_elem? xs i ≡ some x)). ⊎_elim
      (λ (t : (j ≡ id) × (a ≡ y)). subst (λ z. R x z) t.1 (here i x s.0 s.1).1)
      (λ (t : (j ≢ id) × (get_elem? xs j ≡ some y)). h i j x y ne s.1 t.1)
      (at_set xs id j a y ej))
      (at_set xs id i a x ei)

  pub at_length : (xs : List A) (i : ℕ) (x : A) → get_elem? xs i ≡ some x → i < length xs
  at_length [] i x e = absurd (some-ne-none x (sym e))
  at_length (y ∷ ys) zero x e = omega arith
  at_length (y ∷ ys) (suc i) x e = let ih = at_length ys i x e in omega arith

  pub at_get : (xs : List A) (i : ℕ) (x d : A) → get_elem? xs i ≡ some x → get_or xs i d ≡ x
  at_get [] i x d e = absurd (some-ne-none x (sym e))
  at_get (y ∷ ys) zero x d e = some-injective y x e
  at_get (y ∷ ys) (suc i) x d e = at_get ys i x d e

  pub sum_set : (f : A → ℕ) (xs : List A) (id : ℕ) (v w : A) → get_elem? xs id ≡ some v → sum_by f (set xs id w) + f v ≡ sum_by f xs + f w
  sum_set f xs id v w e = ap (λ x. sum_by f (set xs id w) + f x) (sym (at_get xs id v v e)) ∙ sum_by-set f xs id w v (at_length xs id v e)

  pub sum_few : (f : A → ℕ) → ((x : A) → f x ≤ 1) → (xs : List A) → sum_by f xs ≤ length xs
  sum_few f le xs = omega (arith, sum_by-le f 1 xs (λ k d lt. le (get_or xs k d)))

  pub sum_one : (f : A → ℕ) (xs : List A) (i : ℕ) (a : A) → get_elem? xs i ≡ some a → f a ≤ sum_by f xs
  sum_one f xs i a e = subst (λ x. f x ≤ sum_by f xs) (at_get xs i a a e) (get_or-le-sum_by f xs i a (at_length xs i a e))

  pub sum_two : (f : A → ℕ) (xs : List A) (i j : ℕ) (a b : A) → i ≢ j → get_elem? xs i ≡ some a → get_elem? xs j ≡ some b → f a + f b ≤ sum_by f xs
  sum_two f [] i j a b ne e g = absurd (some-ne-none a (sym e))
  sum_two f (x ∷ xs) zero zero a b ne e g = absurd (ne refl)
  sum_two f (x ∷ xs) zero (suc j) a b ne e g = let s = ap f (some-injective x a e) in omega (arith, sum_one f xs j b g, sum_by-cons f x xs)
  sum_two f (x ∷ xs) (suc i) zero a b ne e g = let s = ap f (some-injective x b g) in omega (arith, sum_one f xs i a e, sum_by-cons f x xs)
  sum_two f (x ∷ xs) (suc i) (suc j) a b ne e g = omega (arith, sum_two f xs i j a b (λ k. ne (ap suc k)) e g, sum_by-cons f x xs)

  pub prefix_self : (xs : List A) → IsPrefix xs xs
  prefix_self xs = ([], append-nil xs)

  pub prefix_more : (xs ys zs : List A) → IsPrefix xs ys → IsPrefix xs (ys ++ zs)
  prefix_more xs ys zs b = (b.0 ++ zs, sym (append_assoc xs b.0 zs) ∙ ap (λ l. l ++ zs) b.1)

  pub prefix_length : (xs ys : List A) → IsPrefix xs ys → length xs ≤ length ys
  prefix_length xs ys b = omega (arith, ap length b.1, length-append xs b.0)

  pub each_snoc : (P : A → Type 0) (xs : List A) (a : A) → Each P xs → P a → Each P (xs ++ a ∷ [])
  each_snoc P xs a h here j y e = ⊎_elim (λ (t : get_elem? xs j ≡ some y). h j y t) (λ (t : a ≡ y). subst P t here) (at_snoc xs a y j e)

  pub each_cons : (P : A → Type 0) (x : A) (xs : List A) → P x → Each P xs → Each P (x ∷ xs)
  each_cons P x xs p ps zero y e = subst P (some-injective x y e) p
  each_cons P x xs p ps (suc i) y e = ps i y e

  pub each_none : (P : A → Type 0) → Each P []
  each_none P i x e = absurd (some-ne-none x (sym e))

  snoc_place : (xs : List A) (a b : A) (j : ℕ) → get_elem? (xs ++ a ∷ []) j ≡ some b → (get_elem? xs j ≡ some b) ⊎ ((j ≡ length xs) × (a ≡ b))
  snoc_place [] a b zero e = inr (refl, some-injective a b e)
  snoc_place [] a b (suc j) e = absurd (some-ne-none b (sym e))
  snoc_place (x ∷ xs) a b zero e = inl e
  snoc_place (x ∷ xs) a b (suc j) e = ⊎_elim (λ t. inl t) (λ (t : (j ≡ length xs) × (a ≡ b)). inr (ap suc t.0, t.1)) (snoc_place xs a b j e)

  pub two_snoc : (R : A → A → Type 0) (xs : List A) (a : A) → EachTwo R xs → ((j : ℕ) (y : A) → get_elem? xs j ≡ some y → R a y × R y a) → EachTwo R (xs ++ a ∷ [])
  two_snoc R xs a h here i j x y ne ei ej =
      ⊎_elim
      (λ (s : get_elem? xs i ≡ some x). ⊎_elim
      (λ (t : get_elem? xs j ≡ some y). h i j x y ne s t)
      (λ (t : (j ≡ length xs) × (a ≡ y)). subst (λ z. R x z) t.1 (here i x s).1)
      (snoc_place xs a y j ej))
      (λ (s : (i ≡ length xs) × (a ≡ x)). ⊎_elim
      (λ (t : get_elem? xs j ≡ some y). subst (λ z. R z y) s.1 (here j y t).0)
      (λ (t : (j ≡ length xs) × (a ≡ y)). absurd (ne (s.0 ∙ sym t.0)))
      (snoc_place xs a y j ej))
      (snoc_place xs a x i ei)

  pub set_swap : (xs : List A) (i j : ℕ) (a b : A) → i ≢ j → set (set xs i a) j b ≡ set (set xs j b) i a
  set_swap [] i j a b ne = refl
  set_swap (x ∷ xs) zero zero a b ne = absurd (ne refl)
  set_swap (x ∷ xs) zero (suc j) a b ne = refl
  set_swap (x ∷ xs) (suc i) zero a b ne = refl
  set_swap (x ∷ xs) (suc i) (suc j) a b ne = ap (λ l. x ∷ l) (set_swap xs i j a b (λ k. ne (ap suc k)))

  -- elements by their places are elements by their indexes
  pub all_each : (P : A → Type 0) (xs : List A) → Each P xs → All P xs
  all_each P [] h k d lt = absurd (omega arith)
  all_each P (x ∷ xs) h zero d lt = h zero x refl
  all_each P (x ∷ xs) h (suc k) d lt = all_each P xs (λ i y e. h (suc i) y e) k d (omega arith)

-- the machine that was taken out is the one that was held
pub same_machine : {M : Type 0} (l : List (ℕ × Option M)) (r : Option M) (x m : M) → l ≡ (0, Some m) ∷ [] → l ≡ (0, r) ∷ rest l → r ≡ Some x → x ≡ m
same_machine {M} l r x m held read full =
    let is : r ≡ Some m = ap (λ (y : List (ℕ × Option M)). (get_or y 0 (0, r)).1) (sym read ∙ held) in cc (is, full)

pub same_some : {M : Type 0} (o : Option M) (a b : M) → o ≡ Some a → o ≡ Some b → a ≡ b
same_some o a b e f = cc (e, f)
