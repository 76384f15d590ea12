-- Calls of the engine's only caller that leave its views where they stand.
use Rattle.std.proofs.Common.{◌≡◌, ℕ, ◌<◌, List, [], ◌∷◌, Some, None, Option, refl, ap, sym, subst, ◌∙◌}
use Rattle.std.specs.FinMap.{get, len}
use Rattle.bitmap_kind.specs.Picture.{Picture}
use Rattle.load_cause.specs.declared.causes.Cause.{Cause}
use Rattle.request_tracker.specs.declared.views.ViewState.{ViewState}
use Rattle.request_tracker.specs.declared.views.ViewState.TheVariants.{Cleared, Waiting, Running, Complete, Failed, Paused}
use Rattle.engine_world.specs.declared.events.Event.{Event}
use Rattle.engine_world.specs.declared.events.Event.TheVariants as events
use Rattle.engine_world.specs.declared.events.NotedReply.{NotedReply}
use Rattle.engine_world.specs.Knowledge.{Knowledge, updated}
use Rattle.engine_world.specs.Permits.{IsPicture}
use Rattle.engine_world.specs.Laws.{IsRelease, KeepsOpening}
use Rattle.engine_shared.specs.Tokens.{HoldValue}
use Rattle.engine_shared.specs.Caller.{Caller, knowledge_of, content_of, picture_held, IsCall, HasLoad, HasReadyLoad}
use Rattle.script_walk.specs.Walk.{Begin, WalkView, Outcome, Stage}
use Rattle.fetch_bounds.specs.Costs.{source_run}
use Rattle.fetch_bounds.specs.Failures.{fails_by}
use Rattle.fetch_bounds.specs.FailureLaws.{FailuresByEntry, SourceRunsAddUp}
use Rattle.engine_views.specs.Held.{Holds, Held, loads_in}
use Rattle.engine_views.specs.Owner.{IsOwner, HasJust}
use Rattle.engine_views.specs.Following.{Shows, IsHoldAt, AreHolds, standing, Follows}
use Rattle.engine_views.specs.Quiet.{LeavesViews, AddsItsEntry, QuietCallsLeaveViews, OnlyCallersAddTheirEntries}
use Rattle.engine_views.proofs.StaysOpen.{LeavesOpen}
use Rattle.engine_views.proofs.Owners.{IsStep, one_step, owner_stays}
use Rattle.engine_views.proofs.Holding.{has_same, all_same}
use Rattle.engine_views.proofs.Calls.{no_job}

-- What such a call is, by its event.
record IsStill (event : Event) (reply : NotedReply) : Type 0 where
  known : (k : Knowledge) → updated event reply k ≡ k
  leaves : LeavesOpen event
  no_release : (who n : ℕ) → IsRelease (who, n) who event → ⊥
  no_run : source_run event reply ≡ 0
  no_failure : (k : Knowledge) → fails_by k event ≡ []

module _ (opens : (event : Event) → KeepsOpening event) (adds : SourceRunsAddUp) (fails : FailuresByEntry)
    (event : Event) (reply : NotedReply) (old new : Caller) (still : IsStill event reply) (owner : IsOwner old) (call : IsCall old event reply new) where
  same : knowledge_of new ≡ knowledge_of old
  same = call.knowledge ∙ still.known (knowledge_of old)

  has : (load : HoldValue) → HasLoad old load → HasLoad new load
  has = has_same old new (ap (λ (k : Knowledge). k.loads) same) (ap (λ (k : Knowledge). k.begun) same)

  shows : (load : HoldValue) (result : _) → Shows old load result → Shows new load result
  shows load result is =
      let ready = is.ready in
      record {
        ready = record {
          load = ready.load;
          is = ap (λ (k : Knowledge). get k.loads load.number) same ∙ ready.is;
          key = ready.key;
          ready = ready.ready;
          below = subst (λ (k : Knowledge). load.number < k.begun) (sym same) ready.below;
          picture = ready.picture;
          shows = call.pictures load.number (ready.load, ready.is, ready.ready) (still.no_release old.who load.number) ∙ ready.shows;
          right = subst (λ content. IsPicture content load.key ready.picture) (sym call.content) ready.right;
        };
        is = is.is;
      }

  hold : (outcome : Outcome) (state : ViewState Cause) (last : Option Begin) (h : Option HoldValue) → IsHoldAt old outcome state last h → IsHoldAt new outcome state last h
  hold outcome Running (Some begin) (Some load) is = (is.0, has load is.1)
  hold outcome Running (Some begin) None is = is
  hold outcome Running None h is = is
  hold outcome Complete (Some begin) (Some load) is = (is.0, shows load (outcome begin) is.1)
  hold outcome Complete (Some begin) None is = is
  hold outcome Complete None h is = is
  hold outcome Cleared last h is = is
  hold outcome Waiting last h is = is
  hold outcome (Failed cause) last h is = is
  hold outcome Paused last h is = is

  all_holds : (outcome : Outcome) (vs : List WalkView) (hs : Holds) → AreHolds old outcome vs hs → AreHolds new outcome vs hs
  all_holds outcome [] [] is = tt
  all_holds outcome [] (h ∷ hs) is = absurd is
  all_holds outcome (v ∷ vs) [] is = absurd is
  all_holds outcome (v ∷ vs) (h ∷ hs) is = (hold outcome v.view.state v.last h is.0, all_holds outcome vs hs is.1)

  just : (loads : List HoldValue) → HasJust old loads → HasJust new loads
  just loads is = record {
    owner = owner_stays opens old new event reply still.leaves is.owner call;
    each = all_same old new (ap (λ (k : Knowledge). k.loads) same) (ap (λ (k : Knowledge). k.begun) same) loads is.each;
    apart = is.apart;
    count = ap (λ (k : Knowledge). len k.loads) same ∙ is.count;
    idle = ap (λ (k : Knowledge). k.job) same ∙ is.idle;
  }

  leaves_views : (held : Held) → LeavesViews held event reply old new
  leaves_views held =
      let mine : IsStep old event reply new = one_step opens old new event reply owner.who owner.seats call in
      record {
        seen = mine.seen;
        opening = mine.opening;
        no_job = no_job adds fails old new event reply mine still.no_run still.no_failure;
        follows = λ outcome s at. record {
          just = just (loads_in held.holds) at.just;
          begun = ap (λ (k : Knowledge). k.begun) same ∙ at.begun;
          tracked_is = at.tracked_is;
          distinct = at.distinct;
          begins = at.begins;
          holds = all_holds outcome s.views held.holds at.holds;
        };
      }

still : (event : Event) (reply : NotedReply) → LeavesOpen event → ((k : Knowledge) → updated event reply k ≡ k) → ((who n : ℕ) → IsRelease (who, n) who event → ⊥)
    → source_run event reply ≡ 0 → ((k : Knowledge) → fails_by k event ≡ []) → IsStill event reply
still event reply leaves known no_release no_run no_failure =
    record { known = known; leaves = leaves; no_release = no_release; no_run = no_run; no_failure = no_failure }

pub quiet_calls : ((event : Event) → KeepsOpening event) → SourceRunsAddUp → FailuresByEntry → QuietCallsLeaveViews
quiet_calls opens adds fails held (events.Look n) reply old new quiet owner call =
    leaves_views opens adds fails (events.Look n) reply old new (still (events.Look n) reply tt (λ k. refl) (λ who m is. is) refl (λ k. refl)) owner call held
quiet_calls opens adds fails held (events.Read n at) reply old new quiet owner call =
    leaves_views opens adds fails (events.Read n at) reply old new (still (events.Read n at) reply tt (λ k. refl) (λ who m is. is) refl (λ k. refl)) owner call held
quiet_calls opens adds fails held (events.Trim level) reply old new quiet owner call =
    leaves_views opens adds fails (events.Trim level) reply old new (still (events.Trim level) reply tt (λ k. refl) (λ who m is. is) refl (λ k. refl)) owner call held
quiet_calls opens adds fails held events.Totals reply old new quiet owner call =
    leaves_views opens adds fails events.Totals reply old new (still events.Totals reply tt (λ k. refl) (λ who m is. is) refl (λ k. refl)) owner call held
quiet_calls opens adds fails held event reply old new quiet owner call = absurd quiet

pub alone : ((event : Event) → KeepsOpening event) → OnlyCallersAddTheirEntries
alone opens event reply old new first one call =
    let mine : IsStep old event reply new = one_step opens old new event reply first one call in
    record { step = mine.step; seen = mine.seen; opening = mine.opening }
