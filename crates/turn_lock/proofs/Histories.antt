-- Own entries of histories that grow.
use Rattle.std.proofs.Common.{◌≡◌, ◌≢◌, ℕ, zero, suc, List, [], ◌∷◌, ◌++◌, refl, sym, ap, ◌∙◌, eq-eqb, ne_eqb}
use Rattle.std.specs.Prelude.{if◌then◌else◌}
use Rattle.std.proofs.lemmas.List.{append-nil}
use mathlib.Core.List.{IsPrefix}
use Rattle.state_machine.specs.declared.entry.Entry.{Entry}
use Rattle.state_machine.specs.Histories.{own}
use Rattle.state_machine.specs.Laws.{OwnEntriesAppend}
use Rattle.turn_lock.specs.inside.Rule.{Each}

module _ {N : Type 0} where
  pub own_none : (k : ℕ) (xs : List (Entry N)) → Each (λ e. e.by ≢ k) xs → own k xs ≡ []
  own_none k [] h = refl
  own_none k (x ∷ xs) h = rw (ne_eqb x.by k (h zero x refl)) (own_none k xs (λ i y e. h (suc i) y e))

  module _ (appends : OwnEntriesAppend N) where
    pub own_other : (k : ℕ) (xs : List (Entry N)) (e : Entry N) → e.by ≢ k → own k (xs ++ e ∷ []) ≡ own k xs
    own_other k xs e ne = appends k xs (e ∷ []) ∙ ap (λ b. own k xs ++ (if b then e ∷ [] else [])) (ne_eqb e.by k ne) ∙ append-nil (own k xs)

    pub own_same : (k : ℕ) (xs : List (Entry N)) (e : Entry N) → e.by ≡ k → own k (xs ++ e ∷ []) ≡ own k xs ++ e ∷ []
    own_same k xs e is = appends k xs (e ∷ []) ∙ ap (λ b. own k xs ++ (if b then e ∷ [] else [])) (eq-eqb e.by k is)

    -- where the seat has no more entries in all than in the beginning, it has none in between
    pub own_between : (k : ℕ) (seen all : List (Entry N)) (further : IsPrefix seen all) → own k all ≡ own k seen → own k further.0 ≡ []
    own_between k seen all further same =
        none_more (own k seen) (own k further.0) (sym (appends k seen further.0) ∙ (ap (λ l. own k l) further.1 ∙ same))
      where
        none_more : (xs ys : List (Entry N)) → xs ++ ys ≡ xs → ys ≡ []
        none_more [] ys e = e
        none_more (x ∷ xs) ys e = none_more xs ys (cc e)
