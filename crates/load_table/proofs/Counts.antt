-- How the counts follow a change of one load, and of all that waited on a job.
use Rattle.std.proofs.Common.{◌≡◌, ◌≢◌, ℕ, ◌+◌, Bool, true, false, cond, eqb, List, [], ◌∷◌, refl, ap, sym, ◌∙◌, arith}
use Rattle.std.specs.declared.cmp.Ordering.{Ordering}
use Rattle.std.specs.FinMap.{FinMap, entries}
use Rattle.std.proofs.lemmas.Bool.{eqb-true, ne_eqb}
use Rattle.finite_maps.specs.Maps.{sum_over, total}
use Rattle.finite_maps.specs.MapLaws.{total-insert_new, total-remove, total-map_values, total-same}
use Rattle.load_table.specs.declared.loads.LoadState.{LoadState}
use Rattle.load_table.specs.declared.loads.LoadState.TheVariants.{Waiting, Ready, Failed}
use Rattle.load_table.specs.declared.loads.Settle.{Settle}
use Rattle.load_table.specs.declared.loads.Settle.TheVariants as settles
use Rattle.load_table.specs.Loads.{LoadName, load_cmp, Loads, waits_on, ready_on, state_of, settled, waiting, holders}
use Rattle.load_table.specs.LoadLaws.{CountsOneMore, CountsOneLess, NoneWaits, OthersWait, HoldersJoin, OwnersKeep}
use Rattle.load_table.specs.LoadOrder.{load_total, load_same}

-- ---- sums

module _ {K X : Type 0} where
  sum_none : (es : List (K × X)) → sum_over (λ k x. 0) es ≡ 0
  sum_none [] = refl
  sum_none (e ∷ es) = let rest : sum_over {K = K} {X = X} (λ k x. 0) es ≡ 0 = sum_none es in omega (arith, rest)

  sum_both : (g h : K → X → ℕ) (es : List (K × X)) → sum_over (λ k x. g k x + h k x) es ≡ sum_over g es + sum_over h es
  sum_both g h [] = refl
  sum_both g h (e ∷ es) = let rest : sum_over (λ k x. g k x + h k x) es ≡ sum_over g es + sum_over h es = sum_both g h es in omega (arith, rest)

  total_none : {R : K → K → Ordering} (m : FinMap R X) → total (λ k x. 0) m ≡ 0
  unfolding total
  total_none m = sum_none (entries m)

  total_both : {R : K → K → Ordering} (g h : K → X → ℕ) (m : FinMap R X) → total (λ k x. g k x + h k x) m ≡ total g m + total h m
  unfolding total
  total_both g h m = sum_both g h (entries m)

either_none : (b : Bool) → cond {A = ℕ} b 0 0 ≡ 0
either_none true = refl
either_none false = refl

-- ---- one load

module _ {C : Type 0} where
  pub one_more : CountsOneMore C
  one_more p loads name state none = let all = total-insert_new load_total load_same (λ k x. cond (p k x) 1 0) loads name state none in omega (arith, all)

  pub one_less : CountsOneLess C
  one_less p loads name state there = let all = total-remove load_total load_same (λ k x. cond (p k x) 1 0) loads name state there in omega (arith, all)

  -- ---- all that waited on a job

  has_ended : (job : ℕ) (to : Settle C) → waits_on job (state_of to) ≡ false
  has_ended job (settles.Ready resource) = refl
  has_ended job (settles.Failed cause) = refl

  waits_no_more : (job : ℕ) (to : Settle C) (state : LoadState C) → waits_on job (settled job to state) ≡ false
  waits_no_more job to state = elim (waits_on job state) as (λ t. waits_on job state ≡ t → waits_on job (cond t (state_of to) state) ≡ false) [
    | true ↦ λ t. has_ended job to
    | false ↦ λ t. t
  ] refl

  pub none_waits : NoneWaits C
  none_waits job to loads =
      total-map_values load_cmp (settled job to) (λ k x. cond (waits_on job x) 1 0) loads
      ∙ total-same (λ k x. cond (waits_on job (settled job to x)) 1 0) (λ k x. 0) loads (λ k x. ap (λ b. cond b 1 0) (waits_no_more job to x))
      ∙ total_none loads

  waits_still : (job other : ℕ) (to : Settle C) → other ≢ job → (state : LoadState C) → waits_on other (settled job to state) ≡ waits_on other state
  waits_still job other to ne (Waiting waited) = elim (eqb waited job) as (λ t. eqb waited job ≡ t → waits_on other (cond t (state_of to) (Waiting waited)) ≡ eqb waited other) [
    | true ↦ λ t. has_ended other to ∙ sym (ne_eqb waited other (λ is. ne (sym is ∙ eqb-true waited job t)))
    | false ↦ λ t. refl
  ] refl
  waits_still job other to ne (Ready resource) = refl
  waits_still job other to ne (Failed cause) = refl

  pub others_wait : OthersWait C
  others_wait job other to loads ne =
      total-map_values load_cmp (settled job to) (λ k x. cond (waits_on other x) 1 0) loads
      ∙ total-same (λ k x. cond (waits_on other (settled job to x)) 1 0) (λ k x. cond (waits_on other x) 1 0) loads (λ k x. ap (λ b. cond b 1 0) (waits_still job other to ne x))

  holds_then : (job resource : ℕ) (to : Settle C) (state : LoadState C)
      → cond (ready_on resource (settled job to state)) 1 0 ≡ cond (ready_on resource state) 1 0 + cond (ready_on resource (state_of to)) (cond (waits_on job state) 1 0) 0
  holds_then job resource to (Waiting waited) = elim (eqb waited job) as (λ t. cond (ready_on resource (cond t (state_of to) (Waiting waited))) 1 0 ≡ 0 + cond (ready_on resource (state_of to)) (cond t 1 0) 0) [
    | true ↦ omega arith
    | false ↦ let none = either_none (ready_on resource (state_of to)) in omega (arith, none)
  ]
  holds_then job resource to (Ready ready) = let none = either_none (ready_on resource (state_of to)) in omega (arith, none)
  holds_then job resource to (Failed cause) = let none = either_none (ready_on resource (state_of to)) in omega (arith, none)

  all_or_none : (b : Bool) (job : ℕ) (loads : Loads C) → total (λ k x. cond b (cond (waits_on job x) 1 0) 0) loads ≡ cond b (waiting job loads) 0
  all_or_none true job loads = refl
  all_or_none false job loads = total_none loads

  pub holders_join : HoldersJoin C
  holders_join job resource to loads =
      let held : LoadName → LoadState C → ℕ = λ k x. cond (ready_on resource x) 1 0 in
      let joined : LoadName → LoadState C → ℕ = λ k x. cond (ready_on resource (state_of to)) (cond (waits_on job x) 1 0) 0 in
      total-map_values load_cmp (settled job to) held loads
      ∙ total-same (λ k x. held k (settled job to x)) (λ k x. held k x + joined k x) loads (λ k x. holds_then job resource to x)
      ∙ total_both held joined loads
      ∙ ap (λ n. holders resource loads + n) (all_or_none (ready_on resource (state_of to)) job loads)

  pub owners_keep : OwnersKeep C
  owners_keep job owner to loads = total-map_values load_cmp (settled job to) (λ k x. cond (eqb k.0 owner) 1 0) loads
