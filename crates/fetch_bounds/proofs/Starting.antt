-- Only Load makes loads and starts jobs: a load that is not Full is one more, and starts one job at most.
use Rattle.std.proofs.Common.{Bool, None, Option, Some, ap, arith, cond, eqb, false, refl, subst, sym, true, true≢false, ℕ, ◌+◌, ◌∙◌, ◌≡◌, ◌≢◌, ◌≤◌}
use Rattle.std.proofs.lemmas.Bool.{eqb-true}
use Rattle.std.specs.FinMap.{get, insert}
use Rattle.std.specs.Prelude.{not, ⊤}
use Rattle.bitmap_kind.specs.Picture.{BitmapValue}
use Rattle.cache_key.specs.declared.load_spec.LoadSpec.{LoadSpec}
use Rattle.engine_world.specs.Moves.{active_of, cached_of, end_job, job_for}
use Rattle.engine_world.specs.Steps.{Outcome, Transition, activate, finish, finish_cancelled, finish_kept, load, load_by_active, load_by_cache, load_by_job, load_from_jobs, quota_of, resource_of}
use Rattle.engine_world.specs.World.{Job, Resource, World}
use Rattle.engine_world.specs.declared.events.Event.{Event}
use Rattle.engine_world.specs.declared.events.NotedReply.{NotedReply}
use Rattle.load_table.specs.Loads.{owned}
use Rattle.fetch_bounds.proofs.Events.{IsOther, no_more_law}
use Rattle.fetch_bounds.specs.Costs.{is_started, source_start}
use Rattle.engine_world.specs.declared.events.Event.TheVariants as events
use Rattle.engine_world.specs.declared.events.NotedReply.TheVariants as replies
use Rattle.load_table.specs.declared.loads.Settle.TheVariants as settles

abbrev pub is_full : NotedReply → Bool
is_full replies.Full = true
is_full reply = false

-- The event is not Load.
abbrev pub IsNoLoad : Event → Type 0
IsNoLoad (events.Load spec) = ⊥
IsNoLoad event = ⊤

-- What a load that is not Full leaves.
pub record IsMore (w : World) (o : Outcome) : Type 0 where
  pub loads : o.1.counts.loads ≡ w.counts.loads + 1
  pub started : o.1.counts.started ≤ w.counts.started + 1
  pub not_full : is_full o.0 ≡ false
  pub answered : is_started o.0 ≡ true → o.1.counts.started ≡ w.counts.started + 1

module _ (w : World) where
  module _ (who : ℕ) (spec : LoadSpec) where
    by_job : (o : Option ℕ) → IsMore w (load_by_job w who spec o)
    by_job None = record { loads = refl; started = omega arith; not_full = refl; answered = λ e. refl }
    by_job (Some j) = record { loads = refl; started = omega arith; not_full = refl; answered = λ e. absurd (true≢false (sym e)) }

    by_cache : (o : Option ℕ) → IsMore w (load_by_cache w who spec o)
    by_cache None = by_job (job_for w.jobs spec.key spec.cached)
    by_cache (Some r) = record { loads = refl; started = omega arith; not_full = refl; answered = λ e. absurd (true≢false (sym e)) }

    by_active : (o : Option ℕ) → IsMore w (load_by_active w who spec o)
    by_active None = by_cache (cached_of w.resources w.cached spec.key)
    by_active (Some r) = record { loads = refl; started = omega arith; not_full = refl; answered = λ e. absurd (true≢false (sym e)) }

    pub load_more : owned who w.loads ≢ quota_of w who → IsMore w (load w who spec)
    load_more ne =
        let rest : Bool → Outcome = λ t. cond t (load_from_jobs w who spec) (load_by_active w who spec (active_of w.resources w.active spec.key)) in
        elim (eqb (owned who w.loads) (quota_of w who)) as (λ t. eqb (owned who w.loads) (quota_of w who) ≡ t → IsMore w (cond t (replies.Full, w) (rest spec.skip))) [
          | true ↦ λ e. absurd (ne (eqb-true _ _ e))
          | false ↦ λ e. elim spec.skip as (λ t. IsMore w (rest t)) [
            | true ↦ by_job (job_for w.jobs spec.key spec.cached)
            | false ↦ by_active (active_of w.resources w.active spec.key)
          ]
        ] refl

  -- ---- the other events

  -- There are as many loads and jobs by count.
  abbrev AsMany : World → Type 0
  AsMany z = (z.counts.started ≡ w.counts.started) × (z.counts.loads ≡ w.counts.loads)

  kept-as_many : (j : ℕ) (cacheable : Bool) (r : ℕ) (made : Resource) → AsMany (end_job j (settles.Ready r) (record (activate cacheable r made w) { resources = insert w.resources r made }))
  kept-as_many j true r made = (refl, refl)
  kept-as_many j false r made = (refl, refl)

  finish-as_many : (j : ℕ) (bitmap : BitmapValue) (o : Option Job) → AsMany (finish w j o bitmap).1
  finish-as_many j bitmap None = (refl, refl)
  finish-as_many j bitmap (Some job) = elim job.cancelled as (λ t. AsMany (cond t (finish_cancelled w j bitmap) (finish_kept w j job bitmap)).1) [
    | true ↦ (refl, refl)
    | false ↦ kept-as_many j (not job.spec.skip) bitmap.number (resource_of job bitmap)
  ]

  other : (z : World) (who : ℕ) (event : Event) (reply : NotedReply) → IsOther event → Transition w who event reply z → AsMany z
  other z who event reply is step = let h = no_more_law w z who event reply is step in (h.started, h.made)

  pub as_many_law : (z : World) (who : ℕ) (event : Event) (reply : NotedReply) → IsNoLoad event → Transition w who event reply z → AsMany z
  as_many_law z who (events.Load spec) reply is step = absurd is
  as_many_law z who (events.Finish j bitmap) reply is step = subst AsMany (sym step.1) (finish-as_many j bitmap (get w.jobs j))
  as_many_law z who event reply is step = other z who event reply tt step

-- none of them starts a job that may ask its source
pub no_source_start : (event : Event) (reply : NotedReply) → IsNoLoad event → source_start event reply ≡ 0
no_source_start (events.Load spec) reply is = absurd is
no_source_start event reply is = refl

pub full_not : {reply : NotedReply} → is_full reply ≡ false → reply ≢ replies.Full
full_not not_full is = true≢false (sym (ap is_full is) ∙ not_full)
