-- What a load is replied.
use Rattle.std.proofs.Common.{◌≡◌, ℕ, true, false, cond, eqb, Some, None, Option, refl, ap, sym, subst, ◌∙◌}
use Rattle.std.specs.Prelude.{⊤, ◌↔◌}
use Rattle.std.proofs.lemmas.Bool.{eqb-true, eq-eqb}
use Rattle.cache_key.specs.declared.load_spec.LoadSpec.{LoadSpec}
use Rattle.load_table.specs.Loads.{owned}
use Rattle.engine_world.specs.declared.events.NotedReply.{NotedReply}
use Rattle.engine_world.specs.declared.events.NotedReply.TheVariants as replies
use Rattle.engine_world.specs.World.{World}
use Rattle.engine_world.specs.Moves.{job_for, cached_of, active_of}
use Rattle.engine_world.specs.Steps.{Outcome, quota_of, load, load_by_job, load_from_jobs, load_by_cache, load_by_active}
use Rattle.engine_shared.specs.Replied.{RepliesToLoad}

-- ---- a load that is given what it asks for is ready, joined a job or started one

module _ (P : NotedReply → Type 0) (ready : P replies.Ready) (joined : (j : ℕ) → P (replies.Joined j)) (started : (j : ℕ) → P (replies.Started j)) where
  by_job : (w : World) (who : ℕ) (spec : LoadSpec) (o : Option ℕ) → P (load_by_job w who spec o).0
  by_job w who spec None = started w.counts.started
  by_job w who spec (Some j) = joined j

  by_cache : (w : World) (who : ℕ) (spec : LoadSpec) (o : Option ℕ) → P (load_by_cache w who spec o).0
  by_cache w who spec None = by_job w who spec (job_for w.jobs spec.key spec.cached)
  by_cache w who spec (Some r) = ready

  by_active : (w : World) (who : ℕ) (spec : LoadSpec) (o : Option ℕ) → P (load_by_active w who spec o).0
  by_active w who spec None = by_cache w who spec (cached_of w.resources w.cached spec.key)
  by_active w who spec (Some r) = ready

-- what a load that is not refused is answered, and what it leaves
abbrev given : World → ℕ → LoadSpec → Outcome
given w who spec = cond spec.skip (load_from_jobs w who spec) (load_by_active w who spec (active_of w.resources w.active spec.key))

module _ (P : NotedReply → Type 0) (ready : P replies.Ready) (joined : (j : ℕ) → P (replies.Joined j)) (started : (j : ℕ) → P (replies.Started j)) where
  is_given : (w : World) (who : ℕ) (spec : LoadSpec) → P (given w who spec).0
  is_given w who spec = elim spec.skip as (λ b. P (cond b (load_from_jobs w who spec) (load_by_active w who spec (active_of w.resources w.active spec.key))).0) [
    | true ↦ by_job P ready joined started w who spec (job_for w.jobs spec.key spec.cached)
    | false ↦ by_active P ready joined started w who spec (active_of w.resources w.active spec.key)
  ]

-- ---- it is refused exactly where the seat has as many as it may have

abbrev NotFull : NotedReply → Type 0
NotFull replies.Full = ⊥
NotFull reply = ⊤

pub full_where : (w : World) (who : ℕ) (spec : LoadSpec) → ((load w who spec).0 ≡ replies.Full) ↔ (owned who w.loads ≡ quota_of w who)
full_where w who spec =
    let more = given w who spec in
    let test = eqb (owned who w.loads) (quota_of w who) in (
      elim test as (λ b. test ≡ b → (cond b (replies.Full, w) more).0 ≡ replies.Full → owned who w.loads ≡ quota_of w who) [
        | true ↦ λ e is. eqb-true _ _ e
        | false ↦ λ e is. absurd (subst NotFull is (is_given NotFull tt (λ j. tt) (λ j. tt) w who spec))
      ] refl,
      λ same. ap (λ b. (cond b (replies.Full, w) more).0) (eq-eqb _ _ same),
    )

-- ---- so it has one of four replies

pub load_replies : (w : World) (who : ℕ) (spec : LoadSpec) → RepliesToLoad (load w who spec).0
load_replies w who spec = elim (eqb (owned who w.loads) (quota_of w who)) as (λ b. RepliesToLoad (cond b (replies.Full, w) (given w who spec)).0) [
  | true ↦ tt
  | false ↦ is_given RepliesToLoad tt (λ j. tt) (λ j. tt) w who spec
]
