-- No step changes the limits or the content that is spoken for.
use Rattle.std.proofs.Common.{◌≡◌, ℕ, Bool, true, false, cond, eqb, Some, None, Option, refl, ap, ◌∙◌, inl, inr}
use Rattle.std.specs.Prelude.{not}
use Rattle.std.specs.Option.{option_map}
use Rattle.std.specs.FinMap.{get}
use Rattle.bitmap_kind.specs.Picture.{BitmapValue, stored_size}
use Rattle.cache_key.specs.declared.load_spec.LoadSpec.{LoadSpec}
use Rattle.load_table.specs.Loads.{owned}
use Rattle.bitmap_pool.specs.Pool.{pool_pick}
use Rattle.engine_world.specs.declared.events.Event.{Event}
use Rattle.engine_world.specs.declared.events.Event.TheVariants as events
use Rattle.engine_world.specs.declared.events.NotedReply.{NotedReply}
use Rattle.engine_world.specs.declared.events.NotedReply.TheVariants as replies
use Rattle.engine_world.specs.declared.events.Lent.{Lent}
use Rattle.engine_world.specs.World.{LoadState, Job, Resource, World, opening}
use Rattle.engine_world.specs.Moves.{active_of, cached_of, job_for}
use Rattle.engine_world.specs.Steps.{quota_of, load_by_job, load_from_jobs, load_by_cache, load_by_active, load, release, Wanted, lent_as, TakeFrom, activate, resource_of, finish_kept, finish_cancelled, finish, Transition}
use Rattle.engine_world.specs.Laws.{KeepsOpening}
use Rattle.engine_world.specs.KeptByMoves.{Outlasts, released-keeps, lend-keeps, take_back-keeps, next_job-keeps, trim-keeps}

module _ (w : World) where
  -- A state has the limits and the content of this one.
  abbrev pub Fixed : World → Type 0
  Fixed v = (v.limits ≡ w.limits) × (v.content ≡ w.content)

  fixed : Outlasts Fixed
  fixed = record { resources = λ v r h. h; active = λ v a h. h; cached = λ v c h. h; pool = λ v p h. h; jobs = λ v j h. h }

  release-fixed : (who n : ℕ) (o : Option LoadState) → Fixed (release w who n o)
  release-fixed who n None = (refl, refl)
  release-fixed who n (Some state) = released-keeps Fixed fixed state _ (refl, refl)

  by_job-fixed : (who : ℕ) (spec : LoadSpec) (o : Option ℕ) → Fixed (load_by_job w who spec o).1
  by_job-fixed who spec None = (refl, refl)
  by_job-fixed who spec (Some j) = (refl, refl)

  by_cache-fixed : (who : ℕ) (spec : LoadSpec) (o : Option ℕ) → Fixed (load_by_cache w who spec o).1
  by_cache-fixed who spec None = by_job-fixed who spec (job_for w.jobs spec.key spec.cached)
  by_cache-fixed who spec (Some r) = (refl, refl)

  by_active-fixed : (who : ℕ) (spec : LoadSpec) (o : Option ℕ) → Fixed (load_by_active w who spec o).1
  by_active-fixed who spec None = by_cache-fixed who spec (cached_of w.resources w.cached spec.key)
  by_active-fixed who spec (Some r) = (refl, refl)

  load-fixed : (who : ℕ) (spec : LoadSpec) → Fixed (load w who spec).1
  load-fixed who spec = elim (eqb (owned who w.loads) (quota_of w who)) as (λ t. Fixed (cond t (replies.Full, w) (cond spec.skip (load_from_jobs w who spec) (load_by_active w who spec (active_of w.resources w.active spec.key)))).1) [
    | true ↦ (refl, refl)
    | false ↦ elim spec.skip as (λ t. Fixed (cond t (load_from_jobs w who spec) (load_by_active w who spec (active_of w.resources w.active spec.key))).1) [
      | true ↦ by_job-fixed who spec (job_for w.jobs spec.key spec.cached)
      | false ↦ by_active-fixed who spec (active_of w.resources w.active spec.key)
    ]
  ]

  activate-fixed : (t : Bool) (r : ℕ) (a : Resource) → Fixed (activate t r a w)
  activate-fixed true r a = (refl, refl)
  activate-fixed false r a = (refl, refl)

  finish-fixed : (j : ℕ) (o : Option Job) (bitmap : BitmapValue) → Fixed (finish w j o bitmap).1
  finish-fixed j None bitmap = (refl, refl)
  finish-fixed j (Some job) bitmap = elim job.cancelled as (λ t. Fixed (cond t (finish_cancelled w j bitmap) (finish_kept w j job bitmap)).1) [
    | true ↦ (refl, refl)
    | false ↦ activate-fixed (not job.spec.skip) bitmap.number (resource_of job bitmap)
  ]

  same_state : (z v : World) → z ≡ v → Fixed v → Fixed z
  same_state z v e h = (ap (λ (x : World). x.limits) e ∙ h.0, ap (λ (x : World). x.content) e ∙ h.1)

  take-fixed : (wanted : Wanted) (v z : World) → Fixed v → (reply : NotedReply) (found : Option Lent) → TakeFrom wanted v found reply z → Fixed z
  take-fixed wanted v z h reply (Some lent) step = same_state z _ step.1 (lend-keeps Fixed fixed wanted.job (get v.jobs wanted.job) lent _ h)
  take-fixed wanted v z h reply None step = elim step [
    | inl step ↦ same_state z _ step.1 (lend-keeps Fixed fixed wanted.job (get v.jobs wanted.job) _ _ h)
    | inr step ↦ same_state z v step.1 h
  ]

  pub fixed_law : (z : World) (who : ℕ) (event : Event) (reply : NotedReply) → Transition w who event reply z → Fixed z
  fixed_law z who (events.Load spec) reply step = same_state z _ step.1 (load-fixed who spec)
  fixed_law z who (events.Collect n) reply step = same_state z w step.1 (refl, refl)
  fixed_law z who (events.Look n) reply step = same_state z w step.1 (refl, refl)
  fixed_law z who (events.Read n at) reply step = same_state z w step.1 (refl, refl)
  fixed_law z who (events.Release n) reply step = same_state z _ step.1 (release-fixed who n (get w.loads (who, n)))
  fixed_law z who (events.NextJob room) reply step = same_state z _ step.1 (next_job-keeps Fixed fixed who w (refl, refl))
  fixed_law z who (events.Take j width height config) reply step =
      let wanted : Wanted = record { job = j; width = width; height = height; config = config } in
      let picked = pool_pick config (stored_size width height config) w.pool in
      take-fixed wanted (record w { pool = picked.groups }) z (refl, refl) reply (option_map (λ b. lent_as wanted b picked.size) picked.found) step
  fixed_law z who (events.GiveBack j bitmap) reply step = same_state z _ step.1 (take_back-keeps Fixed fixed j (get w.jobs j) bitmap.number w (refl, refl))
  fixed_law z who (events.Finish j bitmap) reply step = same_state z _ step.1 (finish-fixed j (get w.jobs j) bitmap)
  fixed_law z who (events.Fail j cause) reply step = same_state z _ step.1 (refl, refl)
  fixed_law z who (events.Quit j) reply step = same_state z _ step.1 (refl, refl)
  fixed_law z who (events.IsCancelled j) reply step = same_state z w step.1 (refl, refl)
  fixed_law z who (events.Trim level) reply step = same_state z _ step.1 (trim-keeps Fixed fixed level w (refl, refl))
  fixed_law z who events.Close reply step = same_state z _ step.1 (refl, refl)
  fixed_law z who events.Totals reply step = same_state z w step.1 (refl, refl)

pub opening_law : (event : Event) → KeepsOpening event
opening_law event w z who reply step =
    let same = fixed_law w z who event reply step in
    λ i. opening (same.0 i) (same.1 i)
