-- The events that leave no more than was there: all but Load and Finish. Most leave the resources as they are.
use Rattle.std.proofs.Common.{List, None, Option, Some, ap, cond, eqb, false, inl, inr, refl, subst, sym, true, ℕ, ◌∙◌, ◌≡◌}
use Rattle.std.specs.FinMap.{get}
use Rattle.std.specs.Option.{option_map}
use Rattle.std.specs.Prelude.{⊤}
use Rattle.bitmap_pool.specs.Pool.{Group, pool_pick}
use Rattle.cache_key.specs.declared.load_spec.LoadSpec.{LoadSpec}
use Rattle.engine_world.specs.Moves.{active_of, cached_of, job_for, lend, next_queued, take_back}
use Rattle.engine_world.specs.Steps.{TakeFrom, Transition, Wanted, lent_as, load, load_by_active, load_by_cache, load_by_job, load_from_jobs, next_job, quota_of, start_job, start_next, wanted_size}
use Rattle.engine_world.specs.World.{Job, World}
use Rattle.engine_world.specs.declared.events.Event.{Event}
use Rattle.engine_world.specs.declared.events.Lent.{Lent}
use Rattle.engine_world.specs.declared.events.NotedReply.{NotedReply}
use Rattle.load_table.specs.Loads.{owned}
use Rattle.script_walk.specs.Walk.{step}
use Rattle.fetch_bounds.proofs.NoMore.{HasNoMore, fail-no_more, gone-no_more, lend-no_more, no_more-same, release-no_more, run-no_more, take_back-no_more, trim-no_more}
use Rattle.engine_world.specs.declared.events.Event.TheVariants as events
use Rattle.engine_world.specs.declared.events.NotedReply.TheVariants as replies

-- The event is neither Load nor Finish.
abbrev pub IsOther : Event → Type 0
IsOther (events.Load spec) = ⊥
IsOther (events.Finish j bitmap) = ⊥
IsOther event = ⊤

-- It is none that takes a resource away or adds one.
abbrev pub IsQuiet : Event → Type 0
IsQuiet (events.Release n) = ⊥
IsQuiet (events.Trim level) = ⊥
IsQuiet (events.Finish j bitmap) = ⊥
IsQuiet event = ⊤

module _ (w : World) where
  -- ---- no more

  of_equal : (z v : World) → z ≡ v → HasNoMore w v → HasNoMore w z
  of_equal z v e h = subst (HasNoMore w) (sym e) h

  -- what pool, counts and the next number are makes no difference
  repooled : (v : World) (pool : List (Group ℕ)) → HasNoMore w v → HasNoMore w (record v { pool = pool })
  repooled v pool h = record { jobs = h.jobs; resources = h.resources; held = h.held; active = h.active; started = h.started; made = h.made }

  start_job-no_more : (who j : ℕ) (o : Option Job) → get w.jobs j ≡ o → HasNoMore w (start_job w who j o).1
  start_job-no_more who j None e = no_more-same w
  start_job-no_more who j (Some job) e = run-no_more w who j job e

  start_next-no_more : (who : ℕ) (o : Option ℕ) → HasNoMore w (start_next w who o).1
  start_next-no_more who None = no_more-same w
  start_next-no_more who (Some j) = start_job-no_more who j (get w.jobs j) refl

  next_job-no_more : (who : ℕ) → HasNoMore w (next_job w who).1
  next_job-no_more who = elim w.closed as (λ t. HasNoMore w (cond t (replies.Closed, w) (start_next w who (next_queued w.jobs))).1) [
    | true ↦ no_more-same w
    | false ↦ start_next-no_more who (next_queued w.jobs)
  ]

  take_from-no_more : (wanted : Wanted) (v z : World) → HasNoMore w v → (reply : NotedReply) (found : Option Lent) → TakeFrom wanted v found reply z → HasNoMore w z
  take_from-no_more wanted v z l reply (Some lent) step =
      of_equal z _ step.1 (lend-no_more w wanted.job (get v.jobs wanted.job) lent _ refl (record { jobs = l.jobs; resources = l.resources; held = l.held; active = l.active; started = l.started; made = l.made }))
  take_from-no_more wanted v z l reply None step = elim step [
    | inl step ↦ of_equal z _ step.1 (lend-no_more w wanted.job (get v.jobs wanted.job) _ _ refl (record { jobs = l.jobs; resources = l.resources; held = l.held; active = l.active; started = l.started; made = l.made }))
    | inr step ↦ of_equal z v step.1 l
  ]

  pub no_more_law : (z : World) (who : ℕ) (event : Event) (reply : NotedReply) → IsOther event → Transition w who event reply z → HasNoMore w z
  no_more_law z who (events.Load spec) reply other step = absurd other
  no_more_law z who (events.Finish j bitmap) reply other step = absurd other
  no_more_law z who (events.Release n) reply other step = of_equal z _ step.1 (release-no_more w who n (get w.loads (who, n)) refl)
  no_more_law z who (events.NextJob room) reply other step = of_equal z _ step.1 (next_job-no_more who)
  no_more_law z who (events.Take j width height config) reply other step =
      let wanted : Wanted = record { job = j; width = width; height = height; config = config } in
      let picked = pool_pick config (wanted_size wanted) w.pool in
      take_from-no_more wanted (record w { pool = picked.groups }) z (repooled w picked.groups (no_more-same w)) reply (option_map (λ b. lent_as wanted b picked.size) picked.found) step
  no_more_law z who (events.GiveBack j bitmap) reply other step =
      of_equal z _ step.1 (repooled (take_back j (get w.jobs j) bitmap.number w) _ (take_back-no_more w j (get w.jobs j) bitmap.number w refl (no_more-same w)))
  no_more_law z who (events.Fail j cause) reply other step = of_equal z _ step.1 (fail-no_more w j cause)
  no_more_law z who (events.Quit j) reply other step = of_equal z _ step.1 (gone-no_more w j)
  no_more_law z who (events.Trim level) reply other step = of_equal z _ step.1 (trim-no_more w level)
  no_more_law z who events.Close reply other step = let same = no_more-same w in of_equal z _ step.1 (record { jobs = same.jobs; resources = same.resources; held = same.held; active = same.active; started = same.started; made = same.made })
  no_more_law z who event reply other step = of_equal z w step.1 (no_more-same w)

  -- ---- the same resources

  lend-same : (j : ℕ) (o : Option Job) (lent : Lent) (v : World) → v.resources ≡ w.resources → (lend j o lent v).resources ≡ w.resources
  lend-same j None lent v h = h
  lend-same j (Some job) lent v h = h

  take_back-same : (j : ℕ) (o : Option Job) (b : ℕ) → (take_back j o b w).resources ≡ w.resources
  take_back-same j None b = refl
  take_back-same j (Some job) b = refl

  same_in : (z v : World) → z ≡ v → v.resources ≡ w.resources → z.resources ≡ w.resources
  same_in z v e h = ap (λ (x : World). x.resources) e ∙ h

  by_job-same : (who : ℕ) (spec : LoadSpec) (o : Option ℕ) → (load_by_job w who spec o).1.resources ≡ w.resources
  by_job-same who spec None = refl
  by_job-same who spec (Some j) = refl

  by_cache-same : (who : ℕ) (spec : LoadSpec) (o : Option ℕ) → (load_by_cache w who spec o).1.resources ≡ w.resources
  by_cache-same who spec None = by_job-same who spec (job_for w.jobs spec.key spec.cached)
  by_cache-same who spec (Some r) = refl

  by_active-same : (who : ℕ) (spec : LoadSpec) (o : Option ℕ) → (load_by_active w who spec o).1.resources ≡ w.resources
  by_active-same who spec None = by_cache-same who spec (cached_of w.resources w.cached spec.key)
  by_active-same who spec (Some r) = refl

  load-same : (who : ℕ) (spec : LoadSpec) → (load w who spec).1.resources ≡ w.resources
  load-same who spec = elim (eqb (owned who w.loads) (quota_of w who)) as (λ t. (cond t (replies.Full, w) (cond spec.skip (load_from_jobs w who spec) (load_by_active w who spec (active_of w.resources w.active spec.key)))).1.resources ≡ w.resources) [
    | true ↦ refl
    | false ↦ elim spec.skip as (λ t. (cond t (load_from_jobs w who spec) (load_by_active w who spec (active_of w.resources w.active spec.key))).1.resources ≡ w.resources) [
      | true ↦ by_job-same who spec (job_for w.jobs spec.key spec.cached)
      | false ↦ by_active-same who spec (active_of w.resources w.active spec.key)
    ]
  ]

  start_job-same : (who j : ℕ) (o : Option Job) → (start_job w who j o).1.resources ≡ w.resources
  start_job-same who j None = refl
  start_job-same who j (Some job) = refl

  start_next-same : (who : ℕ) (o : Option ℕ) → (start_next w who o).1.resources ≡ w.resources
  start_next-same who None = refl
  start_next-same who (Some j) = start_job-same who j (get w.jobs j)

  next_job-same : (who : ℕ) → (next_job w who).1.resources ≡ w.resources
  next_job-same who = elim w.closed as (λ t. (cond t (replies.Closed, w) (start_next w who (next_queued w.jobs))).1.resources ≡ w.resources) [
    | true ↦ refl
    | false ↦ start_next-same who (next_queued w.jobs)
  ]

  take_from-same : (wanted : Wanted) (v z : World) → v.resources ≡ w.resources → (reply : NotedReply) (found : Option Lent) → TakeFrom wanted v found reply z → z.resources ≡ w.resources
  take_from-same wanted v z h reply (Some lent) step = same_in z _ step.1 (lend-same wanted.job (get v.jobs wanted.job) lent _ h)
  take_from-same wanted v z h reply None step = elim step [
    | inl step ↦ same_in z _ step.1 (lend-same wanted.job (get v.jobs wanted.job) _ _ h)
    | inr step ↦ same_in z v step.1 h
  ]

  pub same_law : (z : World) (who : ℕ) (event : Event) (reply : NotedReply) → IsQuiet event → Transition w who event reply z → z.resources ≡ w.resources
  same_law z who (events.Load spec) reply quiet step = same_in z _ step.1 (load-same who spec)
  same_law z who (events.Finish j bitmap) reply quiet step = absurd quiet
  same_law z who (events.Release n) reply quiet step = absurd quiet
  same_law z who (events.NextJob room) reply quiet step = same_in z _ step.1 (next_job-same who)
  same_law z who (events.Take j width height config) reply quiet step =
      let wanted : Wanted = record { job = j; width = width; height = height; config = config } in
      let picked = pool_pick config (wanted_size wanted) w.pool in
      take_from-same wanted (record w { pool = picked.groups }) z refl reply (option_map (λ b. lent_as wanted b picked.size) picked.found) step
  same_law z who (events.GiveBack j bitmap) reply quiet step = same_in z _ step.1 (take_back-same j (get w.jobs j) bitmap.number)
  same_law z who (events.Fail j cause) reply quiet step = same_in z _ step.1 refl
  same_law z who (events.Quit j) reply quiet step = same_in z _ step.1 refl
  same_law z who (events.Trim level) reply quiet step = absurd quiet
  same_law z who events.Close reply quiet step = same_in z _ step.1 refl
  same_law z who event reply quiet step = same_in z w step.1 refl
