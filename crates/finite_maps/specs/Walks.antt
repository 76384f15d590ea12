-- A walk over a list of entries: what is found from a place on, by what stands there. It is plain mathematics.
use Rattle.std.proofs.Common.{◌≡◌, ℕ, ◌+◌, ◌<◌, ◌≤◌, Bool, true, false, cond, List, ◌∷◌, drop, length, get_or, Some, None, ap, sym, ◌∙◌}
use Rattle.std.specs.declared.cmp.Ordering.{Ordering}
use Rattle.std.specs.Ordering.{eq_by_cmp}
use Rattle.std.specs.FinMap.{find}
use Rattle.std.proofs.lemmas.List.{at_drop_more, at_drop_all}
use Rattle.finite_maps.specs.Maps.{first_in}

module _ {K X A : Type 0} (f : List (K × X) → A) where
  -- what is left begins with the entry
  begins : (es : List (K × X)) (i : ℕ) (e : K × X) → i < length es → e ≡ get_or es i e → f (drop i es) ≡ f (e ∷ drop (i + 1) es)
  begins es i e within at = at_drop_more f es i e within ∙ ap (λ x. f (x ∷ drop (i + 1) es)) (sym at)

module _ {K X : Type 0} (p : K → X → Bool) (es : List (K × X)) (i : ℕ) where
  -- the entry passes, and is the first
  pub first_in-here : (e : K × X) → i < length es → e ≡ get_or es i e → p e.0 e.1 ≡ true → first_in p (drop i es) ≡ Some e.0
  first_in-here e within at pass = begins (first_in p) es i e within at ∙ ap (λ b. cond b (Some e.0) (first_in p (drop (i + 1) es))) pass

  -- the entry does not pass
  pub first_in-later : (e : K × X) → i < length es → e ≡ get_or es i e → p e.0 e.1 ≡ false → first_in p (drop (i + 1) es) ≡ first_in p (drop i es)
  first_in-later e within at fails = sym (begins (first_in p) es i e within at ∙ ap (λ b. cond b (Some e.0) (first_in p (drop (i + 1) es))) fails)

  -- nothing is left
  pub first_in-end : length es ≤ i → first_in p (drop i es) ≡ None
  first_in-end past = at_drop_all (first_in p) es i past

module _ {K X : Type 0} (R : K → K → Ordering) (q : K) (es : List (K × X)) (i : ℕ) where
  -- the entry has the key
  pub find-here : (e : K × X) → i < length es → e ≡ get_or es i e → eq_by_cmp R q e.0 ≡ true → find R q (drop i es) ≡ Some e.1
  find-here e within at ties = begins (find R q) es i e within at ∙ ap (λ b. cond b (Some e.1) (find R q (drop (i + 1) es))) ties

  -- the entry has another key
  pub find-later : (e : K × X) → i < length es → e ≡ get_or es i e → eq_by_cmp R q e.0 ≡ false → find R q (drop (i + 1) es) ≡ find R q (drop i es)
  find-later e within at other = sym (begins (find R q) es i e within at ∙ ap (λ b. cond b (Some e.1) (find R q (drop (i + 1) es))) other)

  -- nothing is left
  pub find-end : length es ≤ i → find R q (drop i es) ≡ None
  find-end past = at_drop_all (find R q) es i past
