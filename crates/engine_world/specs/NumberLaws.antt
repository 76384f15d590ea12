-- What is found in finite maps by numbers after a change, and in empty maps. It is plain mathematics.
use Rattle.std.proofs.Common.{◌≡◌, ◌≢◌, ℕ, [], Some, ap, sym, ◌∙◌}
use Rattle.std.specs.Prelude.{◌⊎◌}
use Rattle.std.specs.declared.cmp.Ordering.{Ordering}
use Rattle.std.specs.Ordering.{nat_cmp}
use Rattle.std.specs.Cmp.{nat_cmp_total}
use Rattle.std.specs.FinMap.{FinMap, get, insert, remove, empty, entries, get-empty, len-empty, len-entries, nat_cmp-IsAntisymmetric}
use Rattle.std.proofs.lemmas.List.{nil_from_length}
use Rattle.finite_maps.specs.Maps.{total, sum_over}
use Rattle.finite_maps.specs.MapLaws.{not_Some, key_cases, get-insert_same, get-insert_other, get-remove_other, insert_cases, remove_found}

pub put_cases : {X : Type 0} (m : FinMap nat_cmp X) (k : ℕ) (v : X) (q : ℕ) (x : X) → get (insert m k v) q ≡ Some x → ((q ≡ k) × (v ≡ x)) ⊎ ((q ≢ k) × (get m q ≡ Some x))
put_cases m k v q x e = insert_cases nat_cmp_total nat_cmp-IsAntisymmetric m k v q x e

pub put_same : {X : Type 0} (m : FinMap nat_cmp X) (k : ℕ) (v : X) → get (insert m k v) k ≡ Some v
put_same m k v = get-insert_same nat_cmp_total nat_cmp-IsAntisymmetric m k v

pub put_other : {X : Type 0} (m : FinMap nat_cmp X) (k : ℕ) (v : X) (q : ℕ) → q ≢ k → get (insert m k v) q ≡ get m q
put_other m k v q ne = get-insert_other nat_cmp_total nat_cmp-IsAntisymmetric m k v q ne

pub gone_other : {X : Type 0} (m : FinMap nat_cmp X) (k : ℕ) (q : ℕ) → q ≢ k → get (remove m k) q ≡ get m q
gone_other m k q ne = get-remove_other nat_cmp_total nat_cmp-IsAntisymmetric m k q ne

pub gone_found : {X : Type 0} (m : FinMap nat_cmp X) (k : ℕ) (q : ℕ) (x : X) → get (remove m k) q ≡ Some x → (q ≢ k) × (get m q ≡ Some x)
gone_found m k q x e = remove_found nat_cmp_total nat_cmp-IsAntisymmetric m k q x e

pub number_cases : (q k : ℕ) → (q ≡ k) ⊎ (q ≢ k)
number_cases q k = key_cases nat_cmp_total nat_cmp-IsAntisymmetric q k

-- ---- empty maps

pub none_at : {X : Type 0} {A : Type 0} (q : ℕ) (x : X) → get (empty {X = X} {R = nat_cmp}) q ≡ Some x → A
none_at q x e = absurd (not_Some (sym (get-empty nat_cmp q) ∙ e))

pub entries-empty : {K X : Type 0} (R : K → K → Ordering) → entries (empty {X = X} {R = R}) ≡ []
entries-empty {X = X} R = nil_from_length (entries (empty {X = X} {R = R})) (sym (len-entries empty) ∙ len-empty R X)

pub total-empty : {K X : Type 0} (R : K → K → Ordering) (f : K → X → ℕ) → total f (empty {X = X} {R = R}) ≡ 0
unfolding total
total-empty R f = ap (sum_over f) (entries-empty R)
