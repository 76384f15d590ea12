-- Two calls of two seats, in either order.
use Rattle.std.proofs.Common.{◌≡◌, ◌≢◌, ℕ, zero, suc, ◌+◌, ◌%◌, ◌^◌, ◌⊎◌, List, [], ◌∷◌, refl, sym, ap, ◌∙◌, subst, ⊎_elim, inl, inr, arith, eq-eqb, ne_eqb, All}
use Rattle.std.specs.Prelude.{Contains}
use Rattle.std.proofs.lemmas.List.Elements.{All-head, All-tail}
use Rattle.state_machine.specs.declared.entry.Entry.{Entry}
use Rattle.state_machine.specs.Histories.{entry, own}
use Rattle.state_machine.specs.Legal.{Leads}
use Rattle.adding_machine.specs.declared.machine.Addition.{Addition}
use Rattle.adding_machine.specs.contracts.machine.AddingMachineMachine.TheImpl as impl
use Rattle.adding_machine.specs.Sums.{addition, ZeroFirst, OneFirst}

module _ {N : Type 0} where
  own_here : (k : ℕ) (x : Entry N) (xs : List (Entry N)) → x.by ≡ k → own k (x ∷ xs) ≡ x ∷ own k xs
  own_here k x xs e = rw (eq-eqb x.by k e)

  own_past : (k : ℕ) (x : Entry N) (xs : List (Entry N)) → x.by ≢ k → own k (x ∷ xs) ≡ own k xs
  own_past k x xs e = rw (ne_eqb x.by k e)

  abbrev Either : ℕ → ℕ → Entry N → Type 0
  Either k l e = (e.by ≡ k) ⊎ (e.by ≡ l)

  swapped : (k l : ℕ) (h : List (Entry N)) → All (Either k l) h → All (Either l k) h
  swapped k l h e i d lt = ⊎_elim (λ t. inr t) (λ t. inl t) (e i d lt)

  no_entry : (k l : ℕ) (h : List (Entry N)) → own k h ≡ [] → own l h ≡ [] → All (Either k l) h → h ≡ []
  no_entry k l [] a b e = refl
  no_entry k l (x ∷ xs) a b e = ⊎_elim (λ t. absurd (cc (sym (own_here k x xs t) ∙ a))) (λ t. absurd (cc (sym (own_here l x xs t) ∙ b))) (All-head (Either k l) x xs e)

  one_entry : (k l : ℕ) → k ≢ l → (h : List (Entry N)) (a : Entry N) → own k h ≡ a ∷ [] → own l h ≡ [] → All (Either k l) h → h ≡ a ∷ []
  one_entry k l apart [] a p q e = absurd (cc p)
  one_entry k l apart (x ∷ xs) a p q e = ⊎_elim
      (λ t. let r = sym (own_here k x xs t) ∙ p in let s = sym (own_past l x xs (λ u. apart (sym t ∙ u))) ∙ q in let tail : xs ≡ [] = no_entry k l xs (cc r) s (All-tail (Either k l) x xs e) in cc (r, tail))
      (λ t. absurd (cc (sym (own_here l x xs t) ∙ q)))
      (All-head (Either k l) x xs e)

  two_entries : (k l : ℕ) → k ≢ l → (h : List (Entry N)) (a b : Entry N) → own k h ≡ a ∷ [] → own l h ≡ b ∷ [] → All (Either k l) h → (h ≡ a ∷ b ∷ []) ⊎ (h ≡ b ∷ a ∷ [])
  two_entries k l apart [] a b p q e = absurd (cc p)
  two_entries k l apart (x ∷ xs) a b p q e = ⊎_elim
      (λ t. let r = sym (own_here k x xs t) ∙ p in let s = sym (own_past l x xs (λ u. apart (sym t ∙ u))) ∙ q in
      let tail : xs ≡ b ∷ [] = one_entry l k (λ u. apart (sym u)) xs b s (cc r) (swapped k l xs (All-tail (Either k l) x xs e)) in inl (cc (r, tail)))
      (λ t. let r = sym (own_here l x xs t) ∙ q in let s = sym (own_past k x xs (λ u. apart (sym u ∙ t))) ∙ p in
      let tail : xs ≡ a ∷ [] = one_entry k l apart xs a s (cc r) (All-tail (Either k l) x xs e) in inr (cc (r, tail)))
      (All-head (Either k l) x xs e)

pub zero_or_one : (ks : List ℕ) (k : ℕ) → ks ≡ 0 ∷ 1 ∷ [] → Contains ks k → (k ≡ 0) ⊎ (k ≡ 1)
zero_or_one ks k e h = at (subst (λ l. Contains l k) e h)
  where
    at : Contains (0 ∷ 1 ∷ []) k → (k ≡ 0) ⊎ (k ≡ 1)
    at (zero, lt, is) = inl (sym is)
    at (suc zero, lt, is) = inr (sym is)
    at (suc (suc i), lt, is) = absurd (omega arith)

pub answers : (h : List (Entry Addition)) (x y z : ℕ) → own 0 h ≡ entry 0 (addition 2 x) ∷ [] → own 1 h ≡ entry 1 (addition 3 y) ∷ [] → All (λ e. (e.by ≡ 0) ⊎ (e.by ≡ 1)) h → Leads impl.ghosts 0 h z
    → (ZeroFirst x y h ⊎ OneFirst x y h) × (z ≡ 5)
answers h x y z a b small leads =
    ⊎_elim
    (λ (t : h ≡ entry 0 (addition 2 x) ∷ entry 1 (addition 3 y) ∷ []).
    let r : Leads impl.ghosts 0 (entry 0 (addition 2 x) ∷ entry 1 (addition 3 y) ∷ []) z = subst (λ k. Leads impl.ghosts 0 k z) t leads in
    let first : r.0 ≡ 2 = r.1.sum in let next : r.2.0 ≡ 5 = r.2.1.sum ∙ ap (λ n. (n + 3) % 2 ^ 64) first in
    let zero_is : x ≡ 2 = r.1.answer ∙ first in let one_is : y ≡ 5 = r.2.1.answer ∙ next in
    (inl record { zero_is = zero_is; one_is = one_is; history_is = t ∙ (ap (λ n. entry 0 (addition 2 n) ∷ entry 1 (addition 3 y) ∷ []) zero_is ∙ ap (λ n. entry 0 (addition 2 2) ∷ entry 1 (addition 3 n) ∷ []) one_is) }, sym r.2.2 ∙ next))
    (λ (t : h ≡ entry 1 (addition 3 y) ∷ entry 0 (addition 2 x) ∷ []).
    let r : Leads impl.ghosts 0 (entry 1 (addition 3 y) ∷ entry 0 (addition 2 x) ∷ []) z = subst (λ k. Leads impl.ghosts 0 k z) t leads in
    let first : r.0 ≡ 3 = r.1.sum in let next : r.2.0 ≡ 5 = r.2.1.sum ∙ ap (λ n. (n + 2) % 2 ^ 64) first in
    let zero_is : x ≡ 5 = r.2.1.answer ∙ next in let one_is : y ≡ 3 = r.1.answer ∙ first in
    (inr record { zero_is = zero_is; one_is = one_is; history_is = t ∙ (ap (λ n. entry 1 (addition 3 n) ∷ entry 0 (addition 2 x) ∷ []) one_is ∙ ap (λ n. entry 1 (addition 3 3) ∷ entry 0 (addition 2 n) ∷ []) zero_is) }, sym r.2.2 ∙ next))
    (two_entries 0 1 (λ e. omega arith) h (entry 0 (addition 2 x)) (entry 1 (addition 3 y)) a b small)
