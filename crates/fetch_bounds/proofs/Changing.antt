-- How the state of a load changes: it begins by a load of its owner, and ends with the job on which it waits.
use Rattle.std.proofs.Common.{Bool, None, Option, Some, ap, cond, eqb, false, inl, inr, refl, sym, true, true≢false, ℕ, ◌∙◌, ◌≡◌}
use Rattle.std.proofs.lemmas.Bool.{eqb-true}
use Rattle.std.specs.FinMap.{get, insert, remove}
use Rattle.std.specs.Option.{option_map}
use Rattle.std.specs.Prelude.{not, ⊤, ◌⊎◌}
use Rattle.bitmap_kind.specs.Picture.{BitmapValue}
use Rattle.bitmap_pool.specs.Pool.{pool_pick}
use Rattle.cache_key.specs.declared.load_spec.LoadSpec.{LoadSpec}
use Rattle.engine_world.specs.Moves.{active_of, begun_by, cached_of, end_job, job_for}
use Rattle.engine_world.specs.Steps.{Outcome, TakeFrom, Transition, Wanted, activate, finish, finish_cancelled, finish_kept, lent_as, load, load_by_active, load_by_cache, load_by_job, load_from_jobs, quota_of, release, released, resource_of, wanted_size}
use Rattle.engine_world.specs.Worked.{lent}
use Rattle.engine_world.specs.World.{Job, LoadState, Resource, World}
use Rattle.engine_world.specs.declared.events.Event.{Event}
use Rattle.engine_world.specs.declared.events.Lent.{Lent}
use Rattle.engine_world.specs.declared.events.NotedReply.{NotedReply}
use Rattle.finite_maps.specs.MapLaws.{get-map_values, insert_cases, not_Some, remove_found, same_Some}
use Rattle.finite_maps.specs.Maps.{map_values}
use Rattle.load_cause.specs.declared.causes.Cause.{Cause}
use Rattle.load_table.specs.Loads.{LoadName, load_cmp, owned, settled, state_of}
use Rattle.load_table.specs.declared.loads.LoadState.TheVariants.{Failed, Ready, Waiting}
use Rattle.load_table.specs.declared.loads.Settle.{Settle}
use Rattle.engine_world.specs.KeptByMoves.{Outlasts, lend-keeps, next_job-keeps, released-keeps, take_back-keeps, trim-keeps}
use Rattle.load_cause.specs.declared.causes.Cause.TheVariants as causes
use Rattle.engine_world.specs.declared.events.Event.TheVariants as events
use Rattle.engine_world.specs.declared.events.NotedReply.TheVariants as replies
use Rattle.load_table.specs.declared.loads.Settle.TheVariants as settles
use Rattle.load_table.specs.LoadOrder.{load_same, load_total}

-- whether a load has failed, or waits
abbrev pub is_failed : LoadState → Bool
is_failed (Failed cause) = true
is_failed state = false

abbrev pub is_waiting : LoadState → Bool
is_waiting (Waiting j) = true
is_waiting state = false

-- The event is a load.
abbrev pub IsLoad : Event → Type 0
IsLoad (events.Load spec) = ⊤
IsLoad event = ⊥

-- The event ends this job, and what waits on it comes to this.
abbrev pub EndsJob : Event → ℕ → LoadState → Type 0
EndsJob (events.Fail i cause) j to = (i ≡ j) × (to ≡ Failed cause)
EndsJob (events.Finish i bitmap) j to = (i ≡ j) × (to ≡ Ready bitmap.number)
EndsJob event j to = ⊥

module _ (w : World) (q : LoadName) (to : LoadState) where
  -- A load is in this state since it was, it is new, or its job ends.
  abbrev pub Comes : ℕ → Event → Type 0
  Comes who event =
      (get w.loads q ≡ Some to) ⊎ ((q ≡ (who, begun_by w who)) × (is_failed to ≡ false) × IsLoad event)
      ⊎ ((j : ℕ) × (get w.loads q ≡ Some (Waiting j)) × EndsJob event j to)

  IsNow : World → Type 0
  IsNow z = get z.loads q ≡ Some to

  before : (z : World) → z.loads ≡ w.loads → get z.loads q ≡ Some to → get w.loads q ≡ Some to
  before z same e = ap (λ m. get m q) (sym same) ∙ e

  same_loads : Outlasts (λ v. v.loads ≡ w.loads)
  same_loads = record { resources = λ v r h. h; active = λ v a h. h; cached = λ v c h. h; pool = λ v p h. h; jobs = λ v j h. h }

  -- ---- Load

  module _ (who : ℕ) (spec : LoadSpec) where
    added : (state : LoadState) → is_failed state ≡ false → get (insert w.loads (who, begun_by w who) state) q ≡ Some to → Comes who (events.Load spec)
    added state live e = elim (insert_cases load_total load_same w.loads (who, begun_by w who) state q to e) [
      | inl is ↦ inr (inl (is.0, ap is_failed (sym is.1) ∙ live, tt))
      | inr is ↦ inl is.1
    ]

    by_job : (o : Option ℕ) → get (load_by_job w who spec o).1.loads q ≡ Some to → Comes who (events.Load spec)
    by_job None e = added (Waiting w.counts.started) refl e
    by_job (Some j) e = added (Waiting j) refl e

    by_cache : (o : Option ℕ) → get (load_by_cache w who spec o).1.loads q ≡ Some to → Comes who (events.Load spec)
    by_cache None e = by_job (job_for w.jobs spec.key spec.cached) e
    by_cache (Some r) e = added (Ready r) refl e

    by_active : (o : Option ℕ) → get (load_by_active w who spec o).1.loads q ≡ Some to → Comes who (events.Load spec)
    by_active None e = by_cache (cached_of w.resources w.cached spec.key) e
    by_active (Some r) e = added (Ready r) refl e

    loaded : get (load w who spec).1.loads q ≡ Some to → Comes who (events.Load spec)
    loaded =
        let rest : Bool → Outcome = λ t. cond t (load_from_jobs w who spec) (load_by_active w who spec (active_of w.resources w.active spec.key)) in
        elim (eqb (owned who w.loads) (quota_of w who)) as (λ t. get (cond t (replies.Full, w) (rest spec.skip)).1.loads q ≡ Some to → Comes who (events.Load spec)) [
          | true ↦ λ e. inl e
          | false ↦ elim spec.skip as (λ t. get (rest t).1.loads q ≡ Some to → Comes who (events.Load spec)) [
            | true ↦ by_job (job_for w.jobs spec.key spec.cached)
            | false ↦ by_active (active_of w.resources w.active spec.key)
          ]
        ]

  -- ---- Release

  released_before : (who n : ℕ) (o : Option LoadState) → get (release w who n o).loads q ≡ Some to → get w.loads q ≡ Some to
  released_before who n None e = e
  released_before who n (Some state) e =
      let left : World = record w { loads = remove w.loads (who, n) } in
      let same : (released state left).loads ≡ left.loads = released-keeps (λ v. v.loads ≡ left.loads) (record { resources = λ v r h. h; active = λ v a h. h; cached = λ v c h. h; pool = λ v p h. h; jobs = λ v j h. h }) state left refl in
      (remove_found load_total load_same w.loads (who, n) q to (ap (λ m. get m q) (sym same) ∙ e)).1

  -- ---- ends of jobs

  -- What is found is in this state.
  abbrev Found : Option LoadState → LoadState → Type 0
  Found o state = o ≡ Some state

  settled_cases : (j : ℕ) (settle : Settle Cause) (o : Option LoadState) → Found (option_map (settled j settle) o) to → Found o to ⊎ (Found o (Waiting j) × (to ≡ state_of settle))
  settled_cases j settle None e = absurd (not_Some e)
  settled_cases j settle (Some (Waiting i)) e = elim (eqb i j) as (λ t. eqb i j ≡ t → Found (Some (cond t (state_of settle) (Waiting i))) to → Found (Some (Waiting i)) to ⊎ (Found (Some (Waiting i)) (Waiting j) × (to ≡ state_of settle))) [
    | true ↦ λ h e. inr (ap (λ k. Some (Waiting k)) (eqb-true i j h), sym (same_Some _ _ e))
    | false ↦ λ h e. inl e
  ] refl e
  settled_cases j settle (Some (Ready r)) e = inl e
  settled_cases j settle (Some (Failed c)) e = inl e

  ended : (j : ℕ) (settle : Settle Cause) → get (map_values (settled j settle) w.loads) q ≡ Some to → (get w.loads q ≡ Some to) ⊎ ((get w.loads q ≡ Some (Waiting j)) × (to ≡ state_of settle))
  ended j settle e = settled_cases j settle (get w.loads q) (sym (get-map_values load_cmp (settled j settle) w.loads q) ∙ e)

  finished : (j : ℕ) (bitmap : BitmapValue) (who : ℕ) → get (map_values (settled j (settles.Ready bitmap.number)) w.loads) q ≡ Some to → Comes who (events.Finish j bitmap)
  finished j bitmap who e = elim (ended j (settles.Ready bitmap.number) e) [ inl is ↦ inl is | inr is ↦ inr (inr (j, is.0, (refl, is.1))) ]

  kept : (j : ℕ) (bitmap : BitmapValue) (who : ℕ) (cacheable : Bool) (made : Resource)
      → get (end_job j (settles.Ready bitmap.number) (record (activate cacheable bitmap.number made w) { resources = insert w.resources bitmap.number made })).loads q ≡ Some to → Comes who (events.Finish j bitmap)
  kept j bitmap who true made e = finished j bitmap who e
  kept j bitmap who false made e = finished j bitmap who e

  finish_cases : (j : ℕ) (bitmap : BitmapValue) (who : ℕ) (o : Option Job) → get (finish w j o bitmap).1.loads q ≡ Some to → Comes who (events.Finish j bitmap)
  finish_cases j bitmap who None e = inl e
  finish_cases j bitmap who (Some job) e = elim job.cancelled as (λ t. get (cond t (finish_cancelled w j bitmap) (finish_kept w j job bitmap)).1.loads q ≡ Some to → Comes who (events.Finish j bitmap)) [
    | true ↦ λ e. inl e
    | false ↦ kept j bitmap who (not job.spec.skip) (resource_of job bitmap)
  ] e

  -- ---- all events

  take_same : (wanted : Wanted) (v z : World) → v.loads ≡ w.loads → (reply : NotedReply) (found : Option Lent) → TakeFrom wanted v found reply z → z.loads ≡ w.loads
  take_same wanted v z h reply (Some lent) step = ap (λ (x : World). x.loads) step.1 ∙ lend-keeps (λ v. v.loads ≡ w.loads) same_loads wanted.job (get v.jobs wanted.job) lent _ h
  take_same wanted v z h reply None step = elim step [
    | inl step ↦ ap (λ (x : World). x.loads) step.1 ∙ lend-keeps (λ v. v.loads ≡ w.loads) same_loads wanted.job (get v.jobs wanted.job) _ _ h
    | inr step ↦ ap (λ (x : World). x.loads) step.1 ∙ h
  ]

  in_world : (z v : World) → z ≡ v → get z.loads q ≡ Some to → get v.loads q ≡ Some to
  in_world z v same e = ap (λ (x : World). get x.loads q) (sym same) ∙ e

  pub change_law : (z : World) (who : ℕ) (event : Event) (reply : NotedReply) → Transition w who event reply z → get z.loads q ≡ Some to → Comes who event
  change_law z who (events.Load spec) reply step e = loaded who spec (in_world z _ step.1 e)
  change_law z who (events.Release n) reply step e = inl (released_before who n (get w.loads (who, n)) (in_world z _ step.1 e))
  change_law z who (events.NextJob room) reply step e = inl (before z (ap (λ (x : World). x.loads) step.1 ∙ next_job-keeps (λ v. v.loads ≡ w.loads) same_loads who w refl) e)
  change_law z who (events.Take j width height config) reply step e =
      let wanted : Wanted = record { job = j; width = width; height = height; config = config } in
      let picked = pool_pick config (wanted_size wanted) w.pool in
      inl (before z (take_same wanted (record w { pool = picked.groups }) z refl reply (option_map (λ b. lent_as wanted b picked.size) picked.found) step) e)
  change_law z who (events.GiveBack j bitmap) reply step e =
      inl (before z (ap (λ (x : World). x.loads) step.1 ∙ take_back-keeps (λ v. v.loads ≡ w.loads) same_loads j (get w.jobs j) bitmap.number w refl) e)
  change_law z who (events.Finish j bitmap) reply step e = finish_cases j bitmap who (get w.jobs j) (in_world z _ step.1 e)
  change_law z who (events.Fail j cause) reply step e = elim (ended j (settles.Failed cause) (in_world z _ step.1 e)) [ inl is ↦ inl is | inr is ↦ inr (inr (j, is.0, (refl, is.1))) ]
  change_law z who (events.Trim level) reply step e = inl (before z (ap (λ (x : World). x.loads) step.1 ∙ trim-keeps (λ v. v.loads ≡ w.loads) same_loads level w refl) e)
  change_law z who event reply step e = inl (in_world z _ step.1 e)

-- ---- failed loads

abbrev cause_in : LoadState → Cause
cause_in (Failed cause) = cause
cause_in state = causes.Missing

fail_only : (event : Event) (j : ℕ) (cause : Cause) → EndsJob event j (Failed cause) → event ≡ events.Fail j cause
fail_only (events.Fail i c) j cause ends = λ k. events.Fail (ends.0 k) (cause_in (sym ends.1 k))
fail_only (events.Finish i bitmap) j cause ends = absurd (true≢false (ap is_failed ends.1))
fail_only event j cause ends = absurd ends

-- a load that has failed had failed, or its job fails now
pub failed_law : (w z : World) (q : LoadName) (cause : Cause) (who : ℕ) (event : Event) (reply : NotedReply) → Transition w who event reply z → get z.loads q ≡ Some (Failed cause)
    → (get w.loads q ≡ Some (Failed cause)) ⊎ ((j : ℕ) × (event ≡ events.Fail j cause) × (get w.loads q ≡ Some (Waiting j)))
failed_law w z q cause who event reply step e = elim (change_law w q (Failed cause) z who event reply step e) [
  | inl was ↦ inl was
  | inr other ↦ elim other [
    | inl new ↦ absurd (true≢false new.1)
    | inr end ↦ inr (end.0, fail_only event end.0 cause end.2, end.1)
  ]
]

-- ---- loads that wait

no_end : (event : Event) (i j : ℕ) → EndsJob event j (Waiting i) → ⊥
no_end (events.Fail k c) i j ends = true≢false (ap is_waiting ends.1)
no_end (events.Finish k bitmap) i j ends = true≢false (ap is_waiting ends.1)
no_end event i j ends = ends

-- a load that waits did so before, or is new
pub waiting_law : (w z : World) (q : LoadName) (i who : ℕ) (event : Event) (reply : NotedReply) → Transition w who event reply z → get z.loads q ≡ Some (Waiting i)
    → (get w.loads q ≡ Some (Waiting i)) ⊎ ((q ≡ (who, begun_by w who)) × IsLoad event)
waiting_law w z q i who event reply step e = elim (change_law w q (Waiting i) z who event reply step e) [
  | inl was ↦ inl was
  | inr other ↦ elim other [
    | inl new ↦ inr (new.0, new.2)
    | inr end ↦ absurd (no_end event i end.0 end.2)
  ]
]
