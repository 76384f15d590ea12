-- What the engine answers for the load of a view, and what comes of it.
use Rattle.std.specs.Prelude.{◌≡◌, ◌==◌, ◌-◌, ℕ, zero, suc, if◌then◌else◌, List, [], ◌∷◌, ◌++◌, slice_get, Some, None, Ok, Err, Result}
use Rattle.std.specs.declared.option.Option.{Option}
use Rattle.std.specs.FinMap.{get}
use Rattle.bitmap_kind.specs.Picture.{Picture}
use Rattle.load_cause.specs.declared.causes.Cause.{Cause}
use Rattle.load_cause.specs.declared.causes.Cause.TheVariants as causes
use Rattle.load_table.specs.declared.loads.LoadState.TheVariants.{Failed}
use Rattle.request_tracker.specs.declared.views.ViewState.TheVariants.{Running}
use Rattle.request_tracker.specs.Moves.{state_at, collected_at}
use Rattle.engine_world.specs.declared.events.Event.TheVariants as events
use Rattle.engine_world.specs.World.{LoadState}
use Rattle.engine_world.specs.Permits.{IsOwn}
use Rattle.engine_shared.specs.Tokens.{HoldValue}
use Rattle.engine_shared.specs.Caller.{Caller, knowledge_of, content_of, picture_held, IsCall, HasReadyLoad}
use Rattle.engine_shared.specs.Answers.{collected}
use Rattle.engine_shared.specs.declared.answers.Outcome as answers
use Rattle.engine_shared.specs.declared.answers.Outcome.TheVariants as outcomes
use Rattle.script_walk.specs.Walk.{Begin, WalkView, Outcome, Stage, TraceEvent, running, gathered_view, view_ends}
use Rattle.script_walk.specs.Tracked.{tracked}
use Rattle.script_walk.specs.Laws.{EachEnd}
use Rattle.engine_views.specs.Held.{Held, loads_in}
use Rattle.engine_views.specs.Owner.{HasJust, Adds}
use Rattle.engine_views.specs.Following.{Standing, standing, AreHolds}
use Rattle.engine_views.specs.JobRuns.{RunsNoJob}
use Rattle.engine_views.specs.Gathers.{IsRight}
use Rattle.engine_views.specs.inside.Orders.{LetsGo}

-- ---- one view

-- the views after the load of the one at this place came to its end
abbrev pub ended_at : ℕ → Option Cause → Held → Held
ended_at place failed held = record held { tracked = collected_at place failed held.tracked }

-- what comes of an answer
abbrev pub AnswerIsTaken : ℕ → answers.Outcome → Caller → Held → Standing → Type 0
AnswerIsTaken place outcomes.Ready between held new = new ≡ standing between (ended_at place None held)
AnswerIsTaken place (outcomes.Failed cause) between held new =
    LetsGo place (standing between (ended_at place (Some cause) held)) new
    × (new.held.tracked ≡ collected_at place (Some cause) held.tracked)
AnswerIsTaken place (outcomes.NotYet job) between held new = new ≡ standing between held

-- The engine was asked for what a load came to.
pub record IsAsked (place : ℕ) (load : HoldValue) (old new : Standing) : Type 0 where
  pub answer : answers.Outcome
  pub between : Caller
  pub call : IsCall old.caller (events.Collect load.number) (collected answer) between
  pub ready : answer ≡ outcomes.Ready → HasReadyLoad between load
  pub taken : AnswerIsTaken place answer between old.held new

-- It was asked for the load of the view at a place, where that runs, and else nothing changed.
pub record Collects (place : ℕ) (old new : Standing) : Type 0 where
  pub stays : (state_at place old.held.tracked.views ≡ Some Running → ⊥) → new ≡ old
  pub ends : state_at place old.held.tracked.views ≡ Some Running
      → (load : HoldValue) → slice_get old.held.holds place ≡ Some (Some load) → IsAsked place load old new

-- ---- all views

-- what a load came to, by its state in the engine and the picture that it shows; one that waits came to nothing, and is asked for
-- by no gather
abbrev pub result_by : Option LoadState → Option Picture → Result Picture Cause
result_by (Some (Failed cause)) shown = Err cause
result_by state (Some picture) = Ok picture
result_by state None = Err causes.Memory

abbrev pub result_in : Caller → ℕ → Result Picture Cause
result_in c n = result_by (get c.world.loads (c.who, n)) (picture_held c n)

-- what begins came to, of which those after so many gathers end now
abbrev pub outcome_now : ℕ → Caller → Outcome → Outcome
outcome_now gathers c outcome begin =
    if begin.gathers == gathers then result_in c (begin.number - 1) else outcome begin

-- ---- the views up to a place

-- the views of which so many, from the first on, are gathered
abbrev pub gathered_to : ℕ → Outcome → List WalkView → List WalkView
gathered_to zero outcome views = views
gathered_to (suc place) outcome [] = []
gathered_to (suc place) outcome (v ∷ vs) = gathered_view outcome v ∷ gathered_to place outcome vs

-- and what happens then
abbrev pub events_to : ℕ → Outcome → List WalkView → List TraceEvent
events_to zero outcome views = []
events_to (suc place) outcome [] = []
events_to (suc place) outcome (v ∷ vs) = view_ends outcome (running v) ++ events_to place outcome vs

-- The loads that a caller still has are in the states, and show the pictures, that they had at first.
pub record IsLeftOf (first c : Caller) : Type 0 where
  pub who : c.who ≡ first.who
  pub resources : c.world.resources ≡ first.world.resources
  pub loads : (n : ℕ) → IsOwn (knowledge_of c) n
      → get c.world.loads (c.who, n) ≡ get first.world.loads (first.who, n)

-- So many views are gathered, from the first on, since all jobs were run.
pub record AreGatheredTo (place : ℕ) (next : Outcome) (s : Stage) (first : Caller) (at : Standing) : Type 0 where
  pub just : HasJust at.caller (loads_in at.held.holds)
  pub begun : (knowledge_of at.caller).begun ≡ s.begun
  pub tracked_is : at.held.tracked ≡ tracked (record s { views = gathered_to place next s.views })
  pub holds : AreHolds at.caller next (gathered_to place next s.views) at.held.holds
  pub left : IsLeftOf first at.caller
  pub adds : (begun : List Begin) → Adds first at.caller begun (events_to place next s.views)
  pub right : EachEnd (IsRight (content_of first)) (events_to place next s.views)
  pub no_job : RunsNoJob first at.caller
