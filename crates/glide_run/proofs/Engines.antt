-- The engine of a run after its end.
use Rattle.std.proofs.Common.{◌≡◌, ◌≢◌, ℕ, ◌+◌, ◌<◌, ◌≤◌, Bool, true, false, cond, eqb, List, [], ◌∷◌, ◌++◌, length, map, Some, None, Option, refl, ap, sym, subst, ◌∙◌, append-nil, arith, suc, zero}
use Rattle.std.specs.Prelude.{⊤, nat_lt, slice_index_or, sum_by}
use Rattle.std.specs.Ordering.{nat_cmp}
use Rattle.std.specs.Cmp.{nat_cmp_total}
use Rattle.std.specs.FinMap.{FinMap, get, len, entries, empty, len-empty, nat_cmp-IsAntisymmetric}
use Rattle.std.proofs.lemmas.Bool.{eqb-true, eq-eqb, ltb-false}
use Rattle.std.proofs.lemmas.List.{nil_from_length}
use Rattle.outside.specs.Content.{Contents}
use Rattle.finite_maps.specs.Maps.{sum_over, first_in, total, first_key, passes}
use Rattle.finite_maps.specs.MapLaws.{not_Some, none-first_key}
use Rattle.state_machine.specs.declared.entry.Entry.{Entry}
use Rattle.state_machine.specs.Histories.{own}
use Rattle.state_machine.specs.Legal as histories
use Rattle.load_table.specs.Loads.{owned, holders, ready_on, LoadName}
use Rattle.engine_world.specs.declared.events.Note.{Note}
use Rattle.engine_world.specs.World.{LoadState, Loads, Job, Resource, Limits, World, opening}
use Rattle.engine_world.specs.Places.{one_if, occurrences, lent_numbers, times_out}
use Rattle.engine_world.specs.Balance.{out_count, held_count}
use Rattle.engine_world.specs.Knowledge.{OwnLoad, Knowledge, no_knowledge, knowledge_in, learned}
use Rattle.engine_world.specs.Sound.{Sound}
use Rattle.engine_world.specs.Rooms.{WithinLimits}
use Rattle.engine_world.specs.EngineMachine.{opening_of}
use Rattle.engine_shared.specs.Caller.{engine}

-- ---- seats

-- A seat that no entry is of has none.
others_none : (who : ℕ) (history : List (Entry Note)) → ((before after : List (Entry Note)) (e : Entry Note) → history ≡ before ++ e ∷ after → e.by < 1) → who ≢ 0 → own who history ≡ []
others_none who [] h other = refl
others_none who (e ∷ es) h other = elim (eqb e.by who) as (λ b. eqb e.by who ≡ b → cond b (e ∷ own who es) (own who es) ≡ []) [
  | true ↦ λ is. absurd (other (omega (arith, eqb-true e.by who is, h [] es e refl)))
  | false ↦ λ is. others_none who es (λ before after x parts. h (e ∷ before) after x (ap (λ l. e ∷ l) parts)) other
] refl

-- ---- sums over maps

sum_none : {K X : Type 0} (f : K → X → ℕ) (es : List (K × X)) → first_in (λ k x. nat_lt 0 (f k x)) es ≡ None → sum_over f es ≡ 0
sum_none f [] none = refl
sum_none f (e ∷ es) none = elim (nat_lt 0 (f e.0 e.1)) as (λ b. nat_lt 0 (f e.0 e.1) ≡ b → cond b (Some e.0) (first_in (λ k x. nat_lt 0 (f k x)) es) ≡ None → sum_over f (e ∷ es) ≡ 0) [
  | true ↦ λ is rest. absurd (not_Some (sym rest))
  | false ↦ λ is rest. omega (arith, ltb-false 0 (f e.0 e.1) is, sum_none f es rest)
] refl none

none_passes : {X : Type 0} (f : ℕ → X → ℕ) (k : ℕ) (x : Option X) → ((v : X) → x ≡ Some v → f k v ≡ 0) → passes (λ k x. nat_lt 0 (f k x)) k x ≡ false
none_passes f k None h = refl
none_passes f k (Some v) h = ap (nat_lt 0) (h v refl)

total_none : {X : Type 0} (f : ℕ → X → ℕ) (m : FinMap nat_cmp X) → ((k : ℕ) (v : X) → get m k ≡ Some v → f k v ≡ 0) → total f m ≡ 0
unfolding total first_key
total_none f m h = sum_none f (entries m) (none-first_key nat_cmp_total nat_cmp-IsAntisymmetric (λ k x. nat_lt 0 (f k x)) m (λ k. none_passes f k (get m k) (h k)))

-- Where no owner has a load, there is none.
no_entries : (es : List (LoadName × LoadState)) → ((who : ℕ) → sum_over (λ (name : LoadName) (state : LoadState). cond (eqb name.0 who) 1 0) es ≡ 0) → es ≡ []
no_entries [] none = refl
no_entries (e ∷ es) none = absurd (omega (arith, none e.0.0, ap {B = ℕ} (λ b. cond b 1 0) (eq-eqb e.0.0 e.0.0 refl)))

module _ (loads : Loads) (none : (who : ℕ) → owned who loads ≡ 0) where
  none_held : (r : ℕ) → holders r loads ≡ 0
  unfolding total
  none_held r = ap (sum_over (λ name state. cond (ready_on r state) 1 0)) (no_entries (entries loads) none)

only_one : (begun : List ℕ) → length begun ≡ 1 → sum_by (λ n. n) begun ≡ slice_index_or begun 0 0
only_one [] one = cc
only_one (n ∷ []) one = omega arith
only_one (n ∷ k ∷ begun) one = absurd (omega (arith, one))

-- ---- an engine whose seats have no load and no job

module _ (w : World) (known : ℕ → Knowledge) (sound : Sound w known) (loads : (who : ℕ) → len (known who).loads ≡ 0) (idle : (who : ℕ) → (known who).job ≡ None) where
  pub none_owned : (who : ℕ) → owned who w.loads ≡ 0
  none_owned who = (sound.known_is who).live ∙ loads who

  none_lent : (j : ℕ) (job : Job) → get w.jobs j ≡ Some job → job.out ≡ []
  none_lent j job is = elim job.seat as (λ s. job.seat ≡ s → job.out ≡ []) [
    | None ↦ λ queued. let there = sound.jobs.each j job is in nil_from_length job.out (omega (arith, there.out, (there.queued queued).0))
    | Some who ↦ λ runs. let own_job = (sound.known_is who).knows j job is runs in absurd (not_Some (sym (idle who) ∙ own_job.1))
  ] refl

  pub none_out : (bitmap : ℕ) → times_out w.jobs bitmap ≡ 0
  none_out bitmap = total_none (λ j (job : Job). occurrences bitmap (lent_numbers job)) w.jobs (λ j job is. ap (λ out. occurrences bitmap (map (λ lent. lent.number) out)) (none_lent j job is))

  pub none_decoding : out_count w ≡ 0
  none_decoding = total_none (λ j (job : Job). length job.out) w.jobs (λ j job is. ap length (none_lent j job is))

  pub none_kept : held_count w ≡ 0
  none_kept = total_none (λ r (resource : Resource). one_if (nat_lt 0 (holders r w.loads))) w.resources (λ r resource is. ap (λ n. one_if (nat_lt 0 n)) (none_held w.loads none_owned r))

  -- Where there is one seat, the loads are those that it began.
  pub all_begun : WithinLimits w → length w.limits.quotas ≡ 1 → w.counts.loads ≡ (known 0).begun
  all_begun within one = within.begun ∙ only_one w.begun (sound.seats ∙ one) ∙ (sound.known_is 0).count

-- ---- a legal history of one seat's engine

module _ (limits : Limits) (content : Option Contents) (history : List (Entry Note)) (w : World) (one : length limits.quotas ≡ 1) (legal : histories.IsLegal engine (opening limits content) history w) where
  by_none : (who : ℕ) → who ≢ 0 → own who history ≡ []
  by_none who other = others_none who history (λ before after e parts. omega (arith, (legal.asked before after e parts).seat, one)) other

  none_known : (who : ℕ) → who ≢ 0 → knowledge_in history who ≡ no_knowledge
  none_known who other = ap learned (by_none who other)

  pub all_released : len (knowledge_in history 0).loads ≡ 0 → (who : ℕ) → len (knowledge_in history who).loads ≡ 0
  all_released none zero = none
  all_released none (suc who) = ap (λ (known : Knowledge). len known.loads) (none_known (suc who) (λ e. cc)) ∙ len-empty nat_cmp OwnLoad

  pub all_idle : (knowledge_in history 0).job ≡ None → (who : ℕ) → (knowledge_in history who).job ≡ None
  all_idle none zero = none
  all_idle none (suc who) = ap (λ (known : Knowledge). known.job) (none_known (suc who) (λ e. cc))
