-- A gather from the run of all jobs to the end of the last view's load.
use Rattle.std.proofs.Common.{◌≡◌, ℕ, ◌+◌, ◌≤◌, Bool, List, [], ◌∷◌, length, Some, None, Option, IfSome, refl, ap, sym, subst, ◌∙◌, arith, append-nil}
use Rattle.std.specs.FinMap.{get, len}
use Rattle.std.proofs.lemmas.List.{length-map}
use Rattle.outside.specs.declared.sources.Source as sources
use Rattle.load_cause.specs.declared.causes.Cause.{Cause}
use Rattle.request_tracker.specs.declared.views.Ask.{Ask}
use Rattle.request_tracker.specs.declared.views.ViewState.{ViewState}
use Rattle.request_tracker.specs.declared.views.ViewState.TheVariants.{Cleared, Waiting, Running, Complete, Failed, Paused}
use Rattle.request_tracker.specs.Moves.{Tracked}
use Rattle.engine_world.specs.Permits.{IsPicture}
use Rattle.engine_shared.specs.Tokens.{HoldValue}
use Rattle.engine_shared.specs.Caller.{Caller, content_of, HasReadyLoad}
use Rattle.script_walk.specs.Walk.{Begin, WalkView, Outcome, Stage, gathered, gather_events}
use Rattle.script_walk.specs.Tracked.{AreDistinct, tracked, tracked_view}
use Rattle.script_walk.specs.Laws.{EachEnd}
use Rattle.fetch_bounds.specs.Costs.{source_runs}
use Rattle.fetch_bounds.specs.Parts.{TracesJoin}
use Rattle.engine_views.specs.Held.{Held, Holds, loads_in}
use Rattle.engine_views.specs.Owner.{HasJust, Adds}
use Rattle.engine_views.specs.Following.{IsHoldAt, AreHolds, IsLastBegin, AreLastBegins, standing, Follows}
use Rattle.engine_views.specs.JobRuns.{worker, RunsNoJob, RunsJobs}
use Rattle.engine_views.specs.Gathers.{AgreeBefore, IsRight, moment, IsGathered}
use Rattle.engine_views.specs.inside.Running.{HasRun}
use Rattle.engine_views.specs.inside.Collects.{outcome_now, gathered_to, events_to, AreGatheredTo}
use Rattle.engine_views.proofs.Holding.{has_same, all_same}
use Rattle.engine_views.proofs.Collecting.{agrees_before, length-gathered_to, all_views, all_events, gathered_names, all_later}
use Rattle.engine_views.proofs.Gathering.{adds_join}

-- how many views the tracker has
pub tracked_count : (held : Held) (s : Stage) → held.tracked ≡ tracked s → length held.tracked.views ≡ length s.views
tracked_count held s is = ap (λ (t : Tracked Cause). length t.views) is ∙ length-map s.views tracked_view

module _ {S : Type 0} (source : sources.Ghosts S) (wanting : Bool) (old first : Caller) (before after : S) (run : HasRun source wanting (worker old before) (worker first after)) where
  -- ---- once all jobs were run

  pub ran_just : (loads : List HoldValue) → HasJust old loads → HasJust first loads
  ran_just loads just = record {
    owner = run.owner;
    each = all_same old first run.loads run.begun loads just.each;
    apart = just.apart;
    count = ap len run.loads ∙ just.count;
    idle = run.idle;
  }

  abbrev ready_first : (load : HoldValue) → HasReadyLoad old load → HasReadyLoad first load
  ready_first load ready = record {
    load = ready.load;
    is = ap (λ m. get m load.number) run.loads ∙ ready.is;
    key = ready.key;
    ready = ready.ready;
    below = omega (arith, ready.below, run.begun);
    picture = ready.picture;
    shows = run.pictures load.number (ready.load, ready.is, ready.ready) ∙ ready.shows;
    right = subst (λ t. IsPicture t load.key ready.picture) (sym run.content) ready.right;
  }

  module _ (outcome next : Outcome) (gathers : ℕ) (known : AgreeBefore gathers outcome next) where
    hold_first : (name : List ℕ) (ask : Ask) (size : Option (ℕ × ℕ)) (state : ViewState Cause) (last : Option Begin) (hold : Option HoldValue)
        → (let v : WalkView = record { name = name; view = record { ask = ask; size = size; state = state }; last = last } in IfSome last (IsLastBegin gathers v) → IsHoldAt old outcome state last hold → IsHoldAt first next state last hold)
    hold_first name ask size Cleared last hold begins is = is
    hold_first name ask size Waiting last hold begins is = is
    hold_first name ask size Paused last hold begins is = is
    hold_first name ask size (Failed cause) last hold begins is = is
    hold_first name ask size Running None hold begins is = absurd is
    hold_first name ask size Running (Some begin) None begins is = absurd is
    hold_first name ask size Running (Some begin) (Some load) begins is = (is.0, has_same old first run.loads run.begun load is.1)
    hold_first name ask size Complete None hold begins is = absurd is
    hold_first name ask size Complete (Some begin) None begins is = absurd is
    hold_first name ask size Complete (Some begin) (Some load) begins is = (is.0, record { ready = ready_first load is.1.ready; is = known begin (begins.complete refl) ∙ is.1.is })

    holds_first : (vs : List WalkView) (holds : Holds) → AreLastBegins gathers vs → AreHolds old outcome vs holds → AreHolds first next vs holds
    holds_first [] [] begins is = tt
    holds_first [] (hold ∷ holds) begins is = absurd is
    holds_first (v ∷ vs) [] begins is = absurd is
    holds_first (v ∷ vs) (hold ∷ holds) begins is =
        (hold_first v.name v.view.ask v.view.size v.view.state v.last hold begins.0 is.0, holds_first vs holds begins.1 is.1)

  module _ (outcome : Outcome) (s : Stage) (held : Held) (follows : Follows outcome s (standing old held)) where
    abbrev next : Outcome
    next = outcome_now s.gathers first outcome

    pub none_gathered : AreGatheredTo 0 next s first (standing first held)
    none_gathered = record {
      just = ran_just (loads_in held.holds) follows.just;
      begun = run.begun ∙ follows.begun;
      tracked_is = follows.tracked_is;
      holds = holds_first outcome next s.gathers (agrees_before s.gathers first outcome) s.views held.holds follows.begins follows.holds;
      left = record { who = refl; resources = refl; loads = λ n is. refl };
      adds = λ begun. record { later = []; seen = sym (append-nil first.seen); follows = tt; opening = refl };
      right = tt;
      no_job = record { runs = refl; fails = refl };
    }

    -- ---- at the end

    jobs_run : (last : Caller) → RunsNoJob first last → RunsJobs source wanting (worker old before) (worker last after)
    jobs_run last none =
        let jobs = run.jobs in
        record {
          content = jobs.content;
          later = jobs.later;
          fetched = subst (λ (n : ℕ). source.fetched after + source_runs old.seen ≤ source.fetched before + n) (sym none.runs) jobs.fetched;
          jobs = jobs.jobs;
          jobs_are = none.fails ∙ jobs.jobs_are;
          excused = jobs.excused;
          failed = jobs.failed;
          recorded = jobs.recorded;
          caused = jobs.caused;
          owed = jobs.owed;
        }

    pub all_gathered : TracesJoin → (last : Caller) (now : Held) → AreGatheredTo (length s.views) next s first (standing last now) → IsGathered source wanting outcome s (moment old before held) (moment last after now)
    all_gathered join last now is =
        let vs = s.views in
        let views : gathered_to (length vs) next vs ≡ gathered next vs = all_views next vs in
        let events : events_to (length vs) next vs ≡ gather_events next vs = all_events next vs in
        let later = all_later next s.gathers vs follows.begins in
        record {
          next = next;
          known = agrees_before s.gathers first outcome;
          follows = record {
            just = is.just;
            begun = is.begun;
            tracked_is = is.tracked_is ∙ ap (λ l. tracked (record s { views = l })) views;
            distinct = subst AreDistinct (sym (gathered_names next vs)) follows.distinct;
            begins = later.0;
            holds = subst (λ l. AreHolds last next l now.holds) views is.holds;
          };
          adds = λ begun.
              let work : Adds old first begun [] = record { later = run.later; seen = run.seen; follows = run.work; opening = run.opening } in
              subst (Adds old last begun) events (adds_join join old first last begun [] (events_to (length vs) next vs) refl work (is.adds begun));
          begins = later.1;
          right = subst (EachEnd (IsRight (content_of old))) events (subst (λ t. EachEnd (IsRight t) (events_to (length vs) next vs)) run.content is.right);
          jobs = jobs_run last is.no_job;
        }

    -- each view is still there
    pub same_count : (place : ℕ) (last : Caller) (now : Held) → AreGatheredTo place next s first (standing last now) → length now.tracked.views ≡ length held.tracked.views
    same_count place last now is =
        tracked_count now (record s { views = gathered_to place next s.views }) is.tracked_is ∙ length-gathered_to next place s.views ∙ sym (tracked_count held s follows.tracked_is)
