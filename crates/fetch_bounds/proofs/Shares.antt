-- A load of a picture that is there, or on its way, starts no job.
use Rattle.std.proofs.Common.{Bool, None, Some, ap, cond, eqb, false, refl, sym, true, true≢false, ℕ, ◌<◌, ◌∙◌, ◌≡◌}
use Rattle.std.proofs.lemmas.Bool.{and_from}
use Rattle.std.specs.Cmp.{nat_cmp_total}
use Rattle.std.specs.FinMap.{get, nat_cmp-IsAntisymmetric}
use Rattle.std.specs.Option.{option_map}
use Rattle.std.specs.Ordering.{nat_cmp}
use Rattle.std.specs.Prelude.{not}
use Rattle.cache_key.specs.Key.{Key}
use Rattle.cache_key.specs.declared.load_spec.LoadSpec.{LoadSpec}
use Rattle.engine_world.specs.Moves.{active_of, cached_of, has_key, job_for, table_job, table_jobs}
use Rattle.engine_world.specs.Sound.{RefersTo}
use Rattle.engine_world.specs.Steps.{load, load_by_active, load_by_cache, load_by_job, load_from_jobs, quota_of}
use Rattle.engine_world.specs.World.{Job, Jobs, LoadState, Resource, World}
use Rattle.finite_maps.specs.MapLaws.{first_key-none, get-map_values}
use Rattle.job_table.specs.Jobs.{same_kind, serves}
use Rattle.load_table.specs.Loads.{holders, owned}
use Rattle.load_table.specs.declared.loads.LoadState.TheVariants.{Failed, Ready, Waiting}
use Rattle.cache_key.specs.KeyLaws.{same_key-of}
use Rattle.engine_world.specs.KeyedLaws.{has_key-there, same_kind-itself}
use Rattle.fetch_bounds.proofs.Seats.{is_holder, known_there}
use Rattle.fetch_bounds.specs.Findable.{IsFindable}
use Rattle.fetch_bounds.specs.Laws.{SharedLoadsStartNoJob}
use Rattle.engine_world.specs.declared.events.NotedReply.TheVariants as replies
use Rattle.engine_world.specs.OccurrenceLaws.{find-none, item_stands}
use Rattle.std.specs.FinSet as set
use Rattle.job_table.specs.declared.jobs.Job as table

module _ (w : World) (who : ℕ) (spec : LoadSpec) where
  -- A world has started as many jobs.
  abbrev StartsNone : World → Type 0
  StartsNone v = v.counts.started ≡ w.counts.started

  -- where active resources, the memory cache or the jobs have it, no job is started
  pub none_started : spec.skip ≡ false
      → (active_of w.resources w.active spec.key ≡ None → cached_of w.resources w.cached spec.key ≡ None → job_for w.jobs spec.key spec.cached ≡ None → ⊥)
      → StartsNone (load w who spec).1
  none_started looks has =
      let active = active_of w.resources w.active spec.key in
      let cached = cached_of w.resources w.cached spec.key in
      let job = job_for w.jobs spec.key spec.cached in
      let by_job : active ≡ None → cached ≡ None → StartsNone (load_by_job w who spec job).1 = λ a c.
      elim job as (λ o. job ≡ o → StartsNone (load_by_job w who spec o).1) [ None ↦ λ e. absurd (has a c e) | Some j ↦ λ e. refl ] refl in
      let by_cache : active ≡ None → StartsNone (load_by_cache w who spec cached).1 = λ a.
      elim cached as (λ o. cached ≡ o → StartsNone (load_by_cache w who spec o).1) [ None ↦ λ e. by_job a e | Some r ↦ λ e. refl ] refl in
      let by_active : StartsNone (load_by_active w who spec active).1 =
      elim active as (λ o. active ≡ o → StartsNone (load_by_active w who spec o).1) [ None ↦ λ e. by_cache e | Some r ↦ λ e. refl ] refl in
      elim (eqb (owned who w.loads) (quota_of w who)) as (λ t. StartsNone (cond t (replies.Full, w) (cond spec.skip (load_from_jobs w who spec) (load_by_active w who spec active))).1) [
        | true ↦ refl
        | false ↦ ap (λ t. (cond t (load_from_jobs w who spec) (load_by_active w who spec active)).1.counts.started) looks ∙ by_active
      ]

-- a load joins the job of its key and kind that is not cancelled
pub job_for-none : (jobs : Jobs) (key : Key) (cached : Bool) (j : ℕ) (job : Job) → get jobs j ≡ Some job → job.cancelled ≡ false → job.spec.key ≡ key → job.spec.cached ≡ cached
    → job_for jobs key cached ≡ None → ⊥
job_for-none jobs key cached j job at live is kind none =
    let there : get (table_jobs jobs) j ≡ Some (table_job job) = get-map_values nat_cmp table_job jobs j ∙ ap (option_map table_job) at in
    let passes : serves key cached (table_job job) ≡ true =
    and_from _ _ (and_from _ _ (same_key-of _ _ is) (ap (same_kind job.spec.cached) (sym kind) ∙ same_kind-itself job.spec.cached)) (ap not live) in
    true≢false (sym passes ∙ first_key-none nat_cmp_total nat_cmp-IsAntisymmetric (λ k (b : table.Job). serves key cached b) (table_jobs jobs) j (table_job job) none there)

-- a held resource of a findable key is found among the active ones
pub active_of-none : (w : World) (key : Key) (r : ℕ) (a : Resource) → IsFindable key w → get w.resources r ≡ Some a → a.key ≡ key → 0 < holders r w.loads
    → active_of w.resources w.active key ≡ None → ⊥
active_of-none w key r a findable at is some none =
    true≢false (sym (has_key-there w.resources key r a at is) ∙ find-none (has_key w.resources key) (set.items w.active) r none (item_stands w.active r (findable.active r a at is some)))

pub shared_loads_start_no_job : SharedLoadsStartNoJob
shared_loads_start_no_job w known seat spec s findable asks live =
    let there = known_there w.jobs w.resources (get (known live.seat).loads live.number) (get w.loads (live.seat, live.number)) live.load live.is ((s.known_is live.seat).each live.number) in
    none_started w seat spec (asks.memory refl) (λ no_active no_cached no_job. found there.0 there.1 there.2.refers no_active no_job) where
      found : (state : LoadState) → get w.loads (live.seat, live.number) ≡ Some state → RefersTo w.jobs w.resources live.load state → active_of w.resources w.active spec.key ≡ None → job_for w.jobs spec.key spec.cached ≡ None → ⊥
      found (Waiting j) at refers no_active no_job =
          let is : refers.0.spec.key ≡ spec.key = refers.3 ∙ live.key_is in
          job_for-none w.jobs spec.key spec.cached j refers.0 refers.1 refers.2 is ((findable.jobs j refers.0 refers.1).source is ∙ sym (asks.source refl)) no_job
      found (Ready r) at refers no_active no_job = active_of-none w spec.key r refers.0 findable refers.1 (refers.2 ∙ live.key_is) (is_holder w.loads (live.seat, live.number) r at) no_active
      found (Failed cause) at refers no_active no_job = live.live cause at
