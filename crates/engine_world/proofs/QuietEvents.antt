-- The events that change what is known, or nothing: Collect, Look, Read, IsCancelled, Totals and Close.
use Rattle.std.proofs.Common.{◌≡◌, ℕ, true, false, Some, None, Option, refl, ap, sym, subst, ◌∙◌}
use Rattle.std.specs.FinMap.{get}
use Rattle.engine_world.specs.declared.events.Event.{Event}
use Rattle.engine_world.specs.declared.events.Event.TheVariants as events
use Rattle.engine_world.specs.declared.events.NotedReply.{NotedReply}
use Rattle.engine_world.specs.declared.events.NotedReply.TheVariants as replies
use Rattle.load_table.specs.declared.loads.LoadState.TheVariants.{Waiting, Ready, Failed}
use Rattle.engine_world.specs.World.{World}
use Rattle.engine_world.specs.Balance.{totals}
use Rattle.engine_world.specs.Steps.{Outcome, collected, shape_of, piece_from, shown, IsOutcome, is_cancelled}
use Rattle.engine_world.specs.Knowledge.{OwnLoad, Knowledge, with_ready, updated, knowledge_with}
use Rattle.engine_world.specs.Permits.{IsRunning}
use Rattle.engine_world.specs.Sound.{facts, KnowledgeAgrees, Sound}
use Rattle.engine_world.specs.Laws.{KeepsSound}
use Rattle.engine_world.proofs.Orders.{at_each_seat}
use Rattle.engine_world.proofs.Knowing.{knows_ready, knows_told}

-- what the reply and the state of an outcome give, for any reply and state that are it
pub from_outcome : (known : ℕ → Knowledge) (who : ℕ) (event : Event) (reply : NotedReply) (z : World) (outcome : Outcome)
    → IsOutcome reply z outcome → Sound outcome.1 (knowledge_with known who event outcome.0) → Sound z (knowledge_with known who event reply)
from_outcome known who event reply z outcome is s =
    subst (λ r. Sound z (knowledge_with known who event r)) (sym is.0) (subst (λ v. Sound v (knowledge_with known who event outcome.0)) (sym is.1) s)

-- the same state, with other knowledge of its caller
pub now_known : (w : World) (known : ℕ → Knowledge) (who : ℕ) (event : Event) (reply : NotedReply) → Sound w known
    → KnowledgeAgrees (facts w) who (updated event reply (known who)) → Sound w (knowledge_with known who event reply)
now_known w known who event reply s mine = record {
  places = s.places;
  awaited = s.awaited;
  jobs = s.jobs;
  active = s.active;
  cached = s.cached;
  pool = s.pool;
  lent = s.lent;
  resources = s.resources;
  seats = s.seats;
  known_is = at_each_seat (KnowledgeAgrees (facts w)) known who event reply (λ k ne. s.known_is k) mine;
}

with_ready_knows : (w : World) (who n r : ℕ) (known : Knowledge) (own : Option OwnLoad) → get known.loads n ≡ own → get w.loads (who, n) ≡ Some (Ready r)
    → KnowledgeAgrees (facts w) who known → KnowledgeAgrees (facts w) who (with_ready n own known)
with_ready_knows w who n r known None is at k = k
with_ready_knows w who n r known (Some load) is at k = knows_ready w.loads w.jobs w.resources w.begun who known k n r load is at

pub collect_keeps : (w : World) (known : ℕ → Knowledge) (who n : ℕ) → Sound w known
    → Sound w (knowledge_with known who (events.Collect n) (collected (get w.loads (who, n))))
collect_keeps w known who n s =
    elim (get w.loads (who, n)) as (λ state. get w.loads (who, n) ≡ state → Sound w (knowledge_with known who (events.Collect n) (collected state))) [
      | None ↦ λ at. now_known w known who (events.Collect n) _ s (s.known_is who)
      | Some state ↦ elim state as (λ state. get w.loads (who, n) ≡ Some state → Sound w (knowledge_with known who (events.Collect n) (collected (Some state)))) [
        | Waiting j ↦ λ at. now_known w known who (events.Collect n) _ s (s.known_is who)
        | Ready r ↦ λ at. now_known w known who (events.Collect n) _ s (with_ready_knows w who n r (known who) (get (known who).loads n) refl at (s.known_is who))
        | Failed cause ↦ λ at. now_known w known who (events.Collect n) _ s (s.known_is who)
      ]
    ] refl

pub is_cancelled_keeps : (w : World) (known : ℕ → Knowledge) (who j : ℕ) → Sound w known → IsRunning (known who) j
    → Sound w (knowledge_with known who (events.IsCancelled j) (replies.Cancelled (is_cancelled (get w.jobs j))))
is_cancelled_keeps w known who j s run =
    elim (get w.jobs j) as (λ job. get w.jobs j ≡ job → Sound w (knowledge_with known who (events.IsCancelled j) (replies.Cancelled (is_cancelled job)))) [
      | None ↦ λ at. now_known w known who (events.IsCancelled j) _ s (s.known_is who)
      | Some job ↦ λ at. elim job.cancelled as (λ b. job.cancelled ≡ b → Sound w (knowledge_with known who (events.IsCancelled j) (replies.Cancelled b))) [
        | true ↦ λ is. now_known w known who (events.IsCancelled j) _ s (knows_told w.loads w.jobs w.resources w.begun who (known who) (s.known_is who) run.job job run.is (ap (get w.jobs) run.number ∙ at) is)
        | false ↦ λ is. now_known w known who (events.IsCancelled j) _ s (s.known_is who)
      ] refl
    ] refl

pub close_keeps : (w : World) (known : ℕ → Knowledge) (who : ℕ) → Sound w known → Sound (record w { closed = true }) (knowledge_with known who events.Close replies.Done)
close_keeps w known who s = record {
  places = s.places;
  awaited = s.awaited;
  jobs = s.jobs;
  active = s.active;
  cached = s.cached;
  pool = s.pool;
  lent = s.lent;
  resources = s.resources;
  seats = s.seats;
  known_is = at_each_seat (KnowledgeAgrees (facts w)) known who events.Close replies.Done (λ k ne. s.known_is k) (s.known_is who);
}

pub collect_law : (n : ℕ) → KeepsSound (events.Collect n)
collect_law n w z known who reply in_range s permits step =
    from_outcome known who (events.Collect n) reply z (collected (get w.loads (who, n)), w) step (collect_keeps w known who n s)

pub look_law : (n : ℕ) → KeepsSound (events.Look n)
look_law n w z known who reply in_range s permits step =
    from_outcome known who (events.Look n) reply z (shown w (λ p. replies.Shape (shape_of p)) (get w.loads (who, n)), w) step
    (now_known w known who (events.Look n) _ s (s.known_is who))

pub read_law : (n at : ℕ) → KeepsSound (events.Read n at)
read_law n at w z known who reply in_range s permits step =
    from_outcome known who (events.Read n at) reply z (shown w (λ p. replies.Piece (piece_from at p)) (get w.loads (who, n)), w) step
    (now_known w known who (events.Read n at) _ s (s.known_is who))

pub is_cancelled_law : (j : ℕ) → KeepsSound (events.IsCancelled j)
is_cancelled_law j w z known who reply in_range s permits step =
    from_outcome known who (events.IsCancelled j) reply z (replies.Cancelled (is_cancelled (get w.jobs j)), w) step (is_cancelled_keeps w known who j s permits)

pub totals_law : KeepsSound events.Totals
totals_law w z known who reply in_range s permits step =
    from_outcome known who events.Totals reply z (replies.Totals (totals w), w) step (now_known w known who events.Totals _ s (s.known_is who))

pub close_law : KeepsSound events.Close
close_law w z known who reply in_range s permits step =
    from_outcome known who events.Close reply z (replies.Done, record w { closed = true }) step (close_keeps w known who s)
