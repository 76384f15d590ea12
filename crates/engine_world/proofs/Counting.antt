-- The sums of the counts, which no step breaks; most steps change neither counts nor the next number.
use Rattle.std.proofs.Common.{◌≡◌, ℕ, ◌+◌, Bool, true, false, cond, eqb, Some, None, Option, refl, ap, sym, subst, ◌∙◌, inl, inr, arith}
use Rattle.std.specs.Prelude.{not}
use Rattle.std.specs.Option.{option_map}
use Rattle.std.specs.FinMap.{get}
use Rattle.bitmap_kind.specs.Picture.{BitmapValue, stored_size}
use Rattle.cache_key.specs.declared.load_spec.LoadSpec.{LoadSpec}
use Rattle.load_table.specs.Loads.{owned}
use Rattle.bitmap_pool.specs.Pool.{pool_pick}
use Rattle.engine_world.specs.declared.events.Event.{Event}
use Rattle.engine_world.specs.declared.events.Event.TheVariants as events
use Rattle.engine_world.specs.declared.events.NotedReply.{NotedReply}
use Rattle.engine_world.specs.declared.events.NotedReply.TheVariants as replies
use Rattle.engine_world.specs.declared.events.Lent.{Lent}
use Rattle.engine_world.specs.World.{LoadState, Job, Resource, Counts, World}
use Rattle.engine_world.specs.Moves.{active_of, cached_of, job_for, lend}
use Rattle.engine_world.specs.Steps.{Outcome, quota_of, load_by_job, load_from_jobs, load_by_cache, load_by_active, load, release, Wanted, lent_as, TakeFrom, activate, resource_of, finish_kept, finish_cancelled, finish, Transition}
use Rattle.engine_world.specs.KeptByMoves.{Outlasts, released-keeps, take_back-keeps, next_job-keeps, trim-keeps}

-- the sums that hold of the counts, and of the number of bitmaps that were made
pub record CountsAdd (counts : Counts) (next : ℕ) : Type 0 where
  pub loads : counts.loads ≡ counts.active + counts.memory + counts.joined + counts.started
  pub takes : counts.takes ≡ counts.reused + next

module _ (w : World) where
  -- A state has the counts and the next number of this one.
  abbrev Uncounted : World → Type 0
  Uncounted v = (v.counts ≡ w.counts) × (v.next ≡ w.next)

  uncounted : Outlasts Uncounted
  uncounted = record { resources = λ v r h. h; active = λ v a h. h; cached = λ v c h. h; pool = λ v p h. h; jobs = λ v j h. h }

  release-uncounted : (who n : ℕ) (o : Option LoadState) → Uncounted (release w who n o)
  release-uncounted who n None = (refl, refl)
  release-uncounted who n (Some state) = released-keeps Uncounted uncounted state _ (refl, refl)

  activate-uncounted : (t : Bool) (r : ℕ) (a : Resource) → Uncounted (activate t r a w)
  activate-uncounted true r a = (refl, refl)
  activate-uncounted false r a = (refl, refl)

  finish-uncounted : (j : ℕ) (o : Option Job) (bitmap : BitmapValue) → Uncounted (finish w j o bitmap).1
  finish-uncounted j None bitmap = (refl, refl)
  finish-uncounted j (Some job) bitmap = elim job.cancelled as (λ t. Uncounted (cond t (finish_cancelled w j bitmap) (finish_kept w j job bitmap)).1) [
    | true ↦ (refl, refl)
    | false ↦ activate-uncounted (not job.spec.skip) bitmap.number (resource_of job bitmap)
  ]

  same_state : (z v : World) → z ≡ v → Uncounted v → Uncounted z
  same_state z v e h = (ap (λ (x : World). x.counts) e ∙ h.0, ap (λ (x : World). x.next) e ∙ h.1)

  -- what has the counts and the next number has the sums
  sums_as : (v : World) → Uncounted v → CountsAdd w.counts w.next → CountsAdd v.counts v.next
  sums_as v h s = subst (λ c. CountsAdd c v.next) (sym h.0) (subst (λ n. CountsAdd w.counts n) (sym h.1) s)

  by_job-sums : (who : ℕ) (spec : LoadSpec) (o : Option ℕ) → CountsAdd w.counts w.next → CountsAdd (load_by_job w who spec o).1.counts (load_by_job w who spec o).1.next
  by_job-sums who spec None s = record { loads = omega (arith, s.loads); takes = s.takes }
  by_job-sums who spec (Some j) s = record { loads = omega (arith, s.loads); takes = s.takes }

  by_cache-sums : (who : ℕ) (spec : LoadSpec) (o : Option ℕ) → CountsAdd w.counts w.next → CountsAdd (load_by_cache w who spec o).1.counts (load_by_cache w who spec o).1.next
  by_cache-sums who spec None s = by_job-sums who spec (job_for w.jobs spec.key spec.cached) s
  by_cache-sums who spec (Some r) s = record { loads = omega (arith, s.loads); takes = s.takes }

  by_active-sums : (who : ℕ) (spec : LoadSpec) (o : Option ℕ) → CountsAdd w.counts w.next → CountsAdd (load_by_active w who spec o).1.counts (load_by_active w who spec o).1.next
  by_active-sums who spec None s = by_cache-sums who spec (cached_of w.resources w.cached spec.key) s
  by_active-sums who spec (Some r) s = record { loads = omega (arith, s.loads); takes = s.takes }

  load-sums : (who : ℕ) (spec : LoadSpec) → CountsAdd w.counts w.next → CountsAdd (load w who spec).1.counts (load w who spec).1.next
  load-sums who spec s =
      let rest : Outcome = cond spec.skip (load_from_jobs w who spec) (load_by_active w who spec (active_of w.resources w.active spec.key)) in
      elim (eqb (owned who w.loads) (quota_of w who)) as (λ t. CountsAdd (cond t (replies.Full, w) rest).1.counts (cond t (replies.Full, w) rest).1.next) [
        | true ↦ s
        | false ↦ elim spec.skip as (λ t. CountsAdd (cond t (load_from_jobs w who spec) (load_by_active w who spec (active_of w.resources w.active spec.key))).1.counts (cond t (load_from_jobs w who spec) (load_by_active w who spec (active_of w.resources w.active spec.key))).1.next) [
          | true ↦ by_job-sums who spec (job_for w.jobs spec.key spec.cached) s
          | false ↦ by_active-sums who spec (active_of w.resources w.active spec.key) s
        ]
      ]

  lend-sums : (j : ℕ) (o : Option Job) (lent : Lent) (v : World) → CountsAdd v.counts v.next → CountsAdd (lend j o lent v).counts (lend j o lent v).next
  lend-sums j None lent v h = h
  lend-sums j (Some job) lent v h = h

  at_state : (z v : World) → z ≡ v → CountsAdd v.counts v.next → CountsAdd z.counts z.next
  at_state z v e h = subst (λ (x : World). CountsAdd x.counts x.next) (sym e) h

  take-sums : (wanted : Wanted) (v z : World) → CountsAdd v.counts v.next → (reply : NotedReply) (found : Option Lent) → TakeFrom wanted v found reply z → CountsAdd z.counts z.next
  take-sums wanted v z h reply (Some lent) step = at_state z _ step.1 (lend-sums wanted.job (get v.jobs wanted.job) _ _ (record { loads = h.loads; takes = omega (arith, h.takes) }))
  take-sums wanted v z h reply None step = elim step [
    | inl step ↦ at_state z _ step.1 (lend-sums wanted.job (get v.jobs wanted.job) _ _ (record { loads = h.loads; takes = omega (arith, h.takes) }))
    | inr step ↦ at_state z v step.1 h
  ]

  pub sums_law : (z : World) (who : ℕ) (event : Event) (reply : NotedReply) → Transition w who event reply z → CountsAdd w.counts w.next → CountsAdd z.counts z.next
  sums_law z who (events.Load spec) reply step s = at_state z _ step.1 (load-sums who spec s)
  sums_law z who (events.Collect n) reply step s = at_state z w step.1 s
  sums_law z who (events.Look n) reply step s = at_state z w step.1 s
  sums_law z who (events.Read n at) reply step s = at_state z w step.1 s
  sums_law z who (events.Release n) reply step s = sums_as z (same_state z _ step.1 (release-uncounted who n (get w.loads (who, n)))) s
  sums_law z who (events.NextJob room) reply step s = sums_as z (same_state z _ step.1 (next_job-keeps Uncounted uncounted who w (refl, refl))) s
  sums_law z who (events.Take j width height config) reply step s =
      let wanted : Wanted = record { job = j; width = width; height = height; config = config } in
      let picked = pool_pick config (stored_size width height config) w.pool in
      take-sums wanted (record w { pool = picked.groups }) z s reply (option_map (λ b. lent_as wanted b picked.size) picked.found) step
  sums_law z who (events.GiveBack j bitmap) reply step s = sums_as z (same_state z _ step.1 (take_back-keeps Uncounted uncounted j (get w.jobs j) bitmap.number w (refl, refl))) s
  sums_law z who (events.Finish j bitmap) reply step s = sums_as z (same_state z _ step.1 (finish-uncounted j (get w.jobs j) bitmap)) s
  sums_law z who (events.Fail j cause) reply step s = at_state z _ step.1 s
  sums_law z who (events.Quit j) reply step s = at_state z _ step.1 s
  sums_law z who (events.IsCancelled j) reply step s = at_state z w step.1 s
  sums_law z who (events.Trim level) reply step s = sums_as z (same_state z _ step.1 (trim-keeps Uncounted uncounted level w (refl, refl))) s
  sums_law z who events.Close reply step s = at_state z _ step.1 s
  sums_law z who events.Totals reply step s = at_state z w step.1 s
