-- That what failed for a walk has a failed job of its key, kind and cause; and how failures and runs add up. This project's own.
use Rattle.std.specs.Prelude.{◌≡◌, ℕ, ◌+◌, ◌≤◌, List, [], ◌∷◌, ◌++◌, length, slice_index_or, Some, Err, Result}
use Rattle.std.specs.declared.option.Option.{Option}
use Rattle.std.specs.FinMap.{get}
use Rattle.outside.specs.Content.{Contents}
use Rattle.bitmap_kind.specs.Picture.{Picture}
use Rattle.load_cause.specs.declared.causes.Cause.{Cause}
use Rattle.request_tracker.specs.Limits.{views_limit}
use Rattle.state_machine.specs.declared.entry.Entry.{Entry}
use Rattle.state_machine.specs.Legal.{IsLegal}
use Rattle.load_table.specs.declared.loads.LoadState.TheVariants.{Failed}
use Rattle.engine_world.specs.declared.events.Event.{Event}
use Rattle.engine_world.specs.declared.events.Note.{Note}
use Rattle.engine_world.specs.World.{Limits, World, opening}
use Rattle.engine_world.specs.Knowledge.{OwnLoad, knowledge_in}
use Rattle.engine_world.specs.EngineMachine.{engine_machine}
use Rattle.script_walk.specs.Walk.{Begin, TraceEvent}
use Rattle.script_walk.specs.Marks.{Mark, cause_of, begins_in}
use Rattle.script_walk.specs.Laws.{EachEnd}
use Rattle.script_walk.specs.Orderly.{In, IsOrderly}
use Rattle.fetch_bounds.specs.Follows.{Follows}
use Rattle.fetch_bounds.specs.Costs.{source_runs}
use Rattle.fetch_bounds.specs.Failures.{FailedJob, fails_by, fails_from, fails_in, HasFailed}
use Rattle.fetch_bounds.specs.Laws.{Run, events_of, IsRun, MarksAreFailures}

-- ---- longer histories

-- What failed stays first in a longer history, and then comes what fails from there on.
abbrev pub FailuresGoOn : Type 0
FailuresGoOn = (past later : List (Entry Note))
    → fails_in (past ++ later) ≡ fails_in past ++ fails_from (knowledge_in past) later

-- One entry more adds what it fails by what its seat knows.
abbrev pub FailuresByEntry : Type 0
FailuresByEntry = (past : List (Entry Note)) (e : Entry Note)
    → fails_in (past ++ e ∷ []) ≡ fails_in past ++ fails_by (knowledge_in past e.by) e.note.event

abbrev pub SourceRunsAddUp : Type 0
SourceRunsAddUp =
    (past later : List (Entry Note)) → source_runs (past ++ later) ≡ source_runs past + source_runs later

-- ---- failures

-- In a legal history a load that has failed, and is not released, waited for a job of its key and kind that failed for its cause.
abbrev pub FailedLoadsWereFailed : (M Reply : Type 0) → Type 0
FailedLoadsWereFailed M Reply =
    (world : M → World) (history : M → List (Entry Note)) (note : Event → Reply → Note)
    (limits : Limits) (content : Option Contents) (past : List (Entry Note)) (w : World)
    → IsLegal (engine_machine world history note) (opening limits content) past w
    → (who n : ℕ) (own : OwnLoad) (cause : Cause) → get (knowledge_in past who).loads n ≡ Some own
    → get w.loads (who, n) ≡ Some (Failed cause) → HasFailed own.key own.cached cause (fails_in past)

-- An engine with these limits, which knows this content or none, had this history, which led to this world, while seat 0 made
-- these events.
pub record Execution : Type 0 where
  pub limits : Limits
  pub content : Option Contents
  pub events : List TraceEvent
  pub history : List (Entry Note)
  pub world : World

-- for each kind of engine, by how it shows its world and its history, and what it notes of a reply
module _ {M Reply : Type 0} (world : M → World) (history : M → List (Entry Note))
    (note : Event → Reply → Note) where
  -- The history is legal and follows the events, which are orderly; and seat 0 may have a load for each view.
  pub record IsExecution (x : Execution) : Type 0 where
    pub legal : IsLegal (engine_machine world history note) (opening x.limits x.content) x.history x.world
    pub follows : Follows [] x.events x.history
    pub orderly : IsOrderly 0 [] x.events
    pub room : views_limit ≤ slice_index_or x.limits.quotas 0 0

-- If the begin came to its end without a picture, one of these jobs was of its key and kind, and failed for its cause.
abbrev pub HasItsFailure : List FailedJob → Begin → Result Picture Cause → Type 0
HasItsFailure jobs begin result =
    (cause : Cause) → result ≡ Err cause → HasFailed begin.spec.key begin.spec.cached cause jobs

-- In an execution each begin that came to its end has its failure, or a picture.
abbrev pub EndsHaveFailures : (M Reply : Type 0) → Type 0
EndsHaveFailures M Reply =
    (world : M → World) (history : M → List (Entry Note)) (note : Event → Reply → Note)
    (x : Execution) → IsExecution world history note x
    → EachEnd (HasItsFailure (fails_in x.history)) x.events

-- And so has each begin with a mark, where marks are failures.
abbrev pub MarkedBeginsFailed : (M Reply : Type 0) → Type 0
MarkedBeginsFailed M Reply =
    (world : M → World) (history : M → List (Entry Note)) (note : Event → Reply → Note) (run : Run)
    → IsRun world history note run → MarksAreFailures world history note run
    → (begin : Begin) (mark : Mark) → In begin (begins_in (events_of run))
    → run.marks begin.number ≡ Some mark
    → HasFailed begin.spec.key begin.spec.cached (cause_of mark) (fails_in run.history)

-- ---- runs

-- Jobs that may ask their source are run no more often than begins are made.
abbrev pub RunsAreBegun : (M Reply : Type 0) → Type 0
RunsAreBegun M Reply =
    (world : M → World) (history : M → List (Entry Note)) (note : Event → Reply → Note)
    (limits : Limits) (content : Option Contents) (past : List (Entry Note)) (w : World)
    → IsLegal (engine_machine world history note) (opening limits content) past w
    → (events : List TraceEvent) → Follows [] events past
    → source_runs past ≤ length (begins_in events)
