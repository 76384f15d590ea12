-- What stays true when a job goes, and the loads that waited on it settle.
use Rattle.std.proofs.Common.{◌≡◌, ◌≢◌, ℕ, ◌<◌, ◌≤◌, true, false, cond, eqb, List, Some, None, Option, refl, ap, sym, subst, ◌∙◌, inl, inr, arith, true≢false}
use Rattle.std.specs.Option.{option_map}
use Rattle.std.specs.FinMap.{get, remove}
use Rattle.std.proofs.lemmas.Bool.{eqb-true, eqb-false, eq-eqb, ne_eqb}
use Rattle.finite_maps.specs.Maps.{total, map_values}
use Rattle.load_table.specs.declared.loads.LoadState.TheVariants.{Waiting, Ready, Failed}
use Rattle.load_table.specs.declared.loads.Settle.{Settle}
use Rattle.load_table.specs.declared.loads.Settle.TheVariants as settles
use Rattle.load_cause.specs.declared.causes.Cause.{Cause}
use Rattle.load_table.specs.Loads.{LoadName, load_cmp, waits_on, ready_on, state_of, settled, waiting, holders, owned}
use Rattle.engine_world.specs.World.{LoadState, Loads, Job, Jobs, Resources}
use Rattle.engine_world.specs.Places.{one_if}
use Rattle.engine_world.specs.Knowledge.{OwnLoad, Knowledge}
use Rattle.engine_world.specs.Sound.{RefersTo, AllAwaited, LoadAgrees, LoadsAgree, KnowledgeAgrees}
use Rattle.engine_world.specs.NumberLaws.{number_cases, gone_other, gone_found}
use Rattle.engine_world.proofs.Parts.{facts_of}
use Rattle.finite_maps.specs.MapLaws.{not_Some, same_Some, get-map_values, total-map_values, total-same, total-le}
use Rattle.engine_world.proofs.Jobs.{stays_gone, JobStays, ResourceStays}

-- ---- one load

-- a state that is settled so waits on no other job than before
pub waits_settled : (j i : ℕ) (to : Settle Cause) (state : LoadState) → i ≢ j → one_if (waits_on i (state_of to)) ≡ 0 → one_if (waits_on i (settled j to state)) ≡ one_if (waits_on i state)
waits_settled j i to (Waiting job) ne none = elim (eqb job j) as (λ t. eqb job j ≡ t → one_if (waits_on i (cond t (state_of to) (Waiting job))) ≡ one_if (waits_on {C = Cause} i (Waiting job))) [
  | true ↦ λ e. none ∙ sym (ap one_if (ne_eqb job i (λ is. ne (sym is ∙ eqb-true job j e))))
  | false ↦ λ e. refl
] refl
waits_settled j i to (Ready r) ne none = refl
waits_settled j i to (Failed cause) ne none = refl

-- and is ready on no other resource
pub holds_settled : (j q : ℕ) (to : Settle Cause) (state : LoadState) → one_if (ready_on q (state_of to)) ≡ 0 → one_if (ready_on q (settled j to state)) ≡ one_if (ready_on q state)
holds_settled j q to (Waiting job) none = elim (eqb job j) as (λ t. one_if (ready_on q (cond t (state_of to) (Waiting job))) ≡ 0) [ true ↦ none | false ↦ refl ]
holds_settled j q to (Ready r) none = refl
holds_settled j q to (Failed cause) none = refl

-- each that waited is ready then
pub waits-holds : (j r : ℕ) (state : LoadState) → one_if (waits_on j state) ≤ one_if (ready_on r (settled j (settles.Ready r) state))
waits-holds j r (Waiting job) = elim (eqb job j) as (λ t. one_if t ≤ one_if (ready_on {C = Cause} r (cond t (Ready r) (Waiting job)))) [
  | true ↦ let here : one_if (eqb r r) ≡ 1 = ap one_if (eq-eqb r r refl) in omega (arith, here)
  | false ↦ omega arith
]
waits-holds j r (Ready q) = omega arith
waits-holds j r (Failed cause) = omega arith

-- ---- all loads

module _ (loads : Loads) (j : ℕ) (to : Settle Cause) where
  pub waiting_settled : (i : ℕ) → i ≢ j → one_if (waits_on i (state_of to)) ≡ 0 → waiting i (map_values (settled j to) loads) ≡ waiting i loads
  waiting_settled i ne none = total-map_values load_cmp (settled j to) (λ load (state : LoadState). one_if (waits_on i state)) loads
      ∙ total-same (λ load (state : LoadState). one_if (waits_on i (settled j to state))) (λ load (state : LoadState). one_if (waits_on i state)) loads (λ load state. waits_settled j i to state ne none)

  pub holders_settled : (q : ℕ) → one_if (ready_on q (state_of to)) ≡ 0 → holders q (map_values (settled j to) loads) ≡ holders q loads
  holders_settled q none = total-map_values load_cmp (settled j to) (λ load (state : LoadState). one_if (ready_on q state)) loads
      ∙ total-same (λ load (state : LoadState). one_if (ready_on q (settled j to state))) (λ load (state : LoadState). one_if (ready_on q state)) loads (λ load state. holds_settled j q to state none)

  pub live_settled : (who : ℕ) → owned who (map_values (settled j to) loads) ≡ owned who loads
  live_settled who = total-map_values load_cmp (settled j to) (λ (load : LoadName) (state : LoadState). one_if (eqb load.0 who)) loads

  pub awaited_settled : (jobs : Jobs) → ((i : ℕ) → one_if (waits_on i (state_of to)) ≡ 0) → AllAwaited loads jobs → AllAwaited (map_values (settled j to) loads) (remove jobs j)
  awaited_settled jobs none awaited i job at live =
      let found = gone_found jobs j i job at in
      let same : waiting i (map_values (settled j to) loads) ≡ waiting i loads = waiting_settled i found.0 (none i) in
      let old : 0 < waiting i loads = awaited i job found.1 live in
      omega (arith, same, old)

pub held_settled : (loads : Loads) (j r : ℕ) → waiting j loads ≤ holders r (map_values (settled j (settles.Ready r)) loads)
held_settled loads j r =
    let all : holders r (map_values (settled j (settles.Ready r)) loads) ≡ total (λ load (state : LoadState). one_if (ready_on r (settled j (settles.Ready r) state))) loads = total-map_values load_cmp (settled j (settles.Ready r)) (λ load (state : LoadState). one_if (ready_on r state)) loads in
    let le : waiting j loads ≤ total (λ load (state : LoadState). one_if (ready_on r (settled j (settles.Ready r) state))) loads = total-le (λ load (state : LoadState). one_if (waits_on j state)) (λ load (state : LoadState). one_if (ready_on r (settled j (settles.Ready r) state))) loads (λ load state. waits-holds j r state) in
    omega (arith, all, le)

-- ---- what is known of them

module _ (jobs : Jobs) (resources resources' : Resources) (j : ℕ) (job : Job) (is : get jobs j ≡ Some job) (to : Settle Cause)
    (to_refers : (load : OwnLoad) → job.spec.key ≡ load.key → RefersTo (remove jobs j) resources' load (state_of to)) where
  load_settled : (load : OwnLoad) (state : LoadState) → ((r : ℕ) → state ≡ Ready r → ResourceStays resources resources' r) → LoadAgrees jobs resources load state → LoadAgrees (remove jobs j) resources' load (settled j to state)
  load_settled load (Waiting i) stays old = elim (eqb i j) as (λ t. eqb i j ≡ t → LoadAgrees (remove jobs j) resources' load (cond t (state_of to) (Waiting i))) [
    | true ↦ λ e.
        let same : job ≡ old.refers.0 = same_Some _ _ (sym is ∙ ap (get jobs) (sym (eqb-true i j e)) ∙ old.refers.1) in
        let key : job.spec.key ≡ load.key = ap (λ (a : Job). a.spec.key) same ∙ old.refers.3 in
        record { refers = to_refers load key; ready = λ told. absurd (old.ready told) }
    | false ↦ λ e.
        let now = stays_gone jobs j i (eqb-false i j e) old.refers.0 old.refers.1 old.refers.2 in
        record { refers = (now.0, now.1, now.2, now.3 ∙ old.refers.3, now.4 ∙ old.refers.4); ready = old.ready }
  ] refl
  load_settled load (Ready r) stays old = let now = stays r refl old.refers.0 old.refers.1 in record { refers = (now.0, now.1, now.2 ∙ old.refers.2); ready = old.ready }
  load_settled load (Failed cause) stays old = record { refers = tt; ready = old.ready }

  pub agree_settled : (own : Option OwnLoad) (state : Option LoadState) → ((s : LoadState) (r : ℕ) → state ≡ Some s → s ≡ Ready r → ResourceStays resources resources' r)
      → LoadsAgree jobs resources own state → LoadsAgree (remove jobs j) resources' own (option_map (settled j to) state)
  agree_settled None None stays old = tt
  agree_settled None (Some s) stays old = old
  agree_settled (Some load) None stays old = old
  agree_settled (Some load) (Some s) stays old = load_settled load s (λ r. stays s r refl) old

  module _ (loads : Loads) (begun : List ℕ) where
    each_settled : ((r : ℕ) → ResourceStays resources resources' r) → (k : ℕ) (known : Knowledge) → KnowledgeAgrees (facts_of loads jobs resources begun) k known
        → (n : ℕ) → LoadsAgree (remove jobs j) resources' (get known.loads n) (get (map_values (settled j to) loads) (k, n))
    each_settled stays k known knows n = subst (LoadsAgree (remove jobs j) resources' (get known.loads n)) (sym (get-map_values load_cmp (settled j to) loads (k, n)))
        (agree_settled (get known.loads n) (get loads (k, n)) (λ s r e f. stays r) (knows.each n))

    -- the others
    pub knows_settled : ((r : ℕ) → ResourceStays resources resources' r) → (k : ℕ) (known : Knowledge) → job.seat ≢ Some k → KnowledgeAgrees (facts_of loads jobs resources begun) k known → KnowledgeAgrees (facts_of (map_values (settled j to) loads) (remove jobs j) resources' begun) k known
    knows_settled stays k known free knows = record {
      count = knows.count;
      below = knows.below;
      each = each_settled stays k known knows;
      live = live_settled loads j to k ∙ knows.live;
      runs = λ own at.
          let old = knows.runs own at in
          let apart : own.number ≢ j = λ same. free (ap (λ (a : Job). a.seat) (same_Some _ _ (sym is ∙ ap (get jobs) (sym same) ∙ old.1)) ∙ old.2.seat) in
          (old.0, gone_other jobs j own.number apart ∙ old.1, old.2);
      knows = λ i b at sits. knows.knows i b (gone_found jobs j i b at).1 sits;
    }

    -- the one whose job it was
    pub knows_ended : ((r : ℕ) → ResourceStays resources resources' r) → (who : ℕ) (known : Knowledge) → ((i : ℕ) (a : Job) → get jobs i ≡ Some a → a.seat ≡ Some who → i ≡ j)
        → KnowledgeAgrees (facts_of loads jobs resources begun) who known → KnowledgeAgrees (facts_of (map_values (settled j to) loads) (remove jobs j) resources' begun) who (record known { job = None })
    knows_ended stays who known alone knows = record {
      count = knows.count;
      below = knows.below;
      each = each_settled stays who known knows;
      live = live_settled loads j to who ∙ knows.live;
      runs = λ own at. absurd (not_Some at);
      knows = λ i b at sits. let found = gone_found jobs j i b at in absurd (found.0 (alone i b found.1 sits));
    }

-- ---- a cancelled job goes, on which no load waits

module _ (loads : Loads) (jobs : Jobs) (resources : Resources) (begun : List ℕ) (j : ℕ) (job : Job) (is : get jobs j ≡ Some job) where
  pub stays_cancelled : job.cancelled ≡ true → (i : ℕ) → JobStays jobs (remove jobs j) i
  stays_cancelled dead i one at live = elim (number_cases i j) [
    | inl same ↦ let one_is : job ≡ one = same_Some _ _ (sym is ∙ ap (get jobs) (sym same) ∙ at) in absurd (true≢false (sym dead ∙ ap (λ (a : Job). a.cancelled) one_is ∙ live))
    | inr ne ↦ stays_gone jobs j i ne one at live
  ]
