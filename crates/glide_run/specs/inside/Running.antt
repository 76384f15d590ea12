-- Where a run stands between two commands, and what it comes to.
use Rattle.std.specs.Prelude.{◌≡◌, ℕ, ◌≤◌, Bool, false, not, List, [], ◌∷◌, ◌++◌, length, None, Some, Result, IfSome, IsOk, IfOk, if◌then◌else◌, ⊤}
use Rattle.std.specs.List.{list_any}
use Rattle.std.specs.declared.option.Option.{Option}
use Rattle.std.specs.Str.{bytes_eq}
use Rattle.std.specs.Io.KnownBytes.{Appends}
use Rattle.outside.specs.Content.{Contents}
use Rattle.outside.specs.declared.sinks.Sink as sinks
use Rattle.outside.specs.declared.sources.Source as sources
use Rattle.script_lines.specs.Script.{Numbered, Script, script_of}
use Rattle.printed_lines.specs.Printed.{lines_text}
use Rattle.script_walk.specs.Walk.{Begin, Outcome, WalkView, opening, walk, trace}
use Rattle.script_walk.specs.Ends.{lines_in, bad_command, bad_line}
use Rattle.script_walk.specs.Marks.{begins_in}
use Rattle.script_walk.specs.Laws.{EachEnd}
use Rattle.engine_core.specs.CoreView.{CoreValue}
use Rattle.state_machine.specs.declared.entry.Entry.{Entry}
use Rattle.engine_world.specs.declared.events.Note.{Note}
use Rattle.engine_world.specs.declared.events.Totals.{Totals}
use Rattle.engine_world.specs.Balance.{totals}
use Rattle.engine_world.specs.EngineMachine.{opening_of}
use Rattle.engine_shared.specs.Caller.{Caller, knowledge_of, content_of, IsLegal}
use Rattle.fetch_bounds.specs.Follows as followed
use Rattle.fetch_bounds.specs.Parts.{begins_after}
use Rattle.engine_views.specs.Held.{Held, loads_in}
use Rattle.engine_views.specs.Owner.{HasJust, Adds}
use Rattle.engine_views.specs.Following.{standing, Follows}
use Rattle.engine_views.specs.JobRuns.{RunsNoJob, RunsJobs}
use Rattle.engine_views.specs.Gathers.{IsRight}
use Rattle.glide_run.specs.Built.{is_built, built}
use Rattle.glide_run.specs.Handed.{IsWritten}
use Rattle.glide_run.specs.inside.Prints.{failing_in}
use Rattle.glide_run.specs.inside.Obeys.{Moment, standing_at, worker_at, unprinted}
use Rattle.glide_run.specs.declared.run.Ended.{Ended}
use Rattle.glide_run.specs.declared.run.Stop.{Stop}
use Rattle.glide_run.specs.declared.run.Troubles.{Troubles}

-- commands before those of a script
abbrev pub with_all : List Numbered → Script → Script
with_all done script = record { commands = done ++ script.commands; bad = script.bad }

-- Where the whole script is known, it is these commands and what is asked for after them.
abbrev pub IsSplit : Option Script → List Numbered → Option Script → Type 0
IsSplit None done rest = ⊤
IsSplit (Some whole) done None = ⊥
IsSplit (Some whole) done (Some rest) = whole ≡ with_all done rest

-- Each of these commands is built.
abbrev pub AreBuilt : List Numbered → Type 0
AreBuilt commands = list_any (λ first. not (is_built first.command)) commands ≡ false

-- The engine's only caller has made no call.
pub record IsFresh (c : Caller) : Type 0 where
  pub just : HasJust c []
  pub unseen : c.seen ≡ []

-- the core that an owner sees
abbrev pub core_in : Caller → CoreValue
core_in c = record { world = c.world; history = c.seen }

-- ---- between two commands

-- the last begin of the view of a name, or none
abbrev pub last_in : List ℕ → List WalkView → Option Begin
last_in name [] = None
last_in name (v ∷ vs) = if bytes_eq v.name name then v.last else last_in name vs

-- The last begin of each name, among these, is that of the view of this name.
abbrev pub KnowLast : List Begin → List WalkView → Type 0
KnowLast begun views = (name : List ℕ) → followed.last_of name begun ≡ last_in name views

module _ {W S : Type 0} (sink : sinks.Ghosts W) (source : sources.Ghosts S) where
  -- These commands were obeyed: the views stand where their walk stands, the engine's history is that of the walk, and its lines
  -- were printed.
  pub record HasObeyed (done : List Numbered) (troubles : Troubles) (old new : Moment W S) : Type 0 where
    pub built : AreBuilt done
    pub none_bad : bad_command done ≡ None
    pub outcome : Outcome
    pub follows : Follows outcome (walk outcome opening done).stage (standing_at new)
    pub adds : Adds old.caller new.caller [] (walk outcome opening done).events
    pub last : KnowLast (begins_after [] (walk outcome opening done).events)
        (walk outcome opening done).stage.views
    pub right : EachEnd (IsRight (content_of old.caller)) (walk outcome opening done).events
    pub jobs : RunsJobs source troubles.wanting (worker_at old) (worker_at new)
    pub written : Appends (sink.written old.out) (sink.written new.out)
        (lines_text (lines_in (walk outcome opening done).events))
    pub failing_is : troubles.failing ≡ failing_in (walk outcome opening done).events

-- ---- at the end

-- What a run obeyed of a script, and what it left, with what its begins came to. `work` are commands by which the same happens,
-- but for lines that are printed.
pub record Progress : Type 0 where
  pub script : Script
  pub done : List Numbered
  pub left : List Numbered
  pub outcome : Outcome
  pub work : List Numbered

-- The script is that of a text, where this is known. It was obeyed to its end or to its first bad line, or the run was stopped
-- within it. Each picture is the content's, where that is known.
pub record IsProgress (text : Option (List ℕ)) (content : Option Contents) (result : Result Ended Stop)
    (p : Progress) : Type 0 where
  pub script_is : IfSome text (λ text. p.script ≡ built (script_of text))
  pub all_built : AreBuilt p.script.commands
  pub parts : p.script.commands ≡ p.done ++ p.left
  pub none_left : IsOk result → p.left ≡ []
  pub same_work : unprinted (trace p.outcome p.work) ≡ unprinted (trace p.outcome p.done)
  pub all_work : IsOk result → trace p.outcome p.work ≡ trace p.outcome p.done
  pub right : EachEnd (IsRight content) (trace p.outcome p.done)
  pub bad : IfOk result (λ ended. ended.bad ≡ bad_line p.script)
  pub failing : IfOk result (λ ended. ended.troubles.failing ≡ failing_in (trace p.outcome p.done))

module _ {W S : Type 0} (sink : sinks.Ghosts W) (source : sources.Ghosts S) where
  -- The views stand where the walk of what was done stands, or hold what they would hold there; and the engine's history is that
  -- of the walk. The lines of what was done are written, or a prefix of them.
  pub record HasWorked (text : Option (List ℕ)) (result : Result Ended Stop)
      (old new : Moment W S) : Type 0 where
    pub progress : Progress
    pub is : IsProgress text (content_of old.caller) result progress
    pub at : Held
    pub follows : Follows progress.outcome (walk progress.outcome opening progress.work).stage
        (standing new.caller at)
    pub loads : loads_in new.views.holds ≡ loads_in at.holds
    pub adds : Adds old.caller new.caller [] (walk progress.outcome opening progress.work).events
    pub wanting : Bool
    pub wanting_is : IfOk result (λ ended. ended.troubles.wanting ≡ wanting)
    pub jobs : RunsJobs source wanting (worker_at old) (worker_at new)
    pub written : IsWritten sink old.out new.out
        (lines_text (lines_in (trace progress.outcome progress.done))) (IsOk result)

  -- All views were cleared then: the engine's history is that of the whole trace.
  pub record HasRun (text : Option (List ℕ)) (result : Result Ended Stop)
      (old new : Moment W S) : Type 0 where
    pub progress : Progress
    pub is : IsProgress text (content_of old.caller) result progress
    pub just : HasJust new.caller []
    pub begun : (knowledge_of new.caller).begun ≡ length (begins_in (trace progress.outcome progress.work))
    pub follows : followed.Follows [] (trace progress.outcome progress.work) new.caller.seen
    pub opening : opening_of new.caller.world ≡ opening_of old.caller.world
    pub wanting : Bool
    pub wanting_is : IfOk result (λ ended. ended.troubles.wanting ≡ wanting)
    pub jobs : RunsJobs source wanting (worker_at old) (worker_at new)
    pub written : IsWritten sink old.out new.out
        (lines_text (lines_in (trace progress.outcome progress.done))) (IsOk result)

-- The engine is closed, and told its totals. Nothing else happened.
pub record IsClosed (sums : Totals) (old new : Caller) : Type 0 where
  pub later : List (Entry Note)
  pub seen : new.seen ≡ old.seen ++ later
  pub work : followed.AllWork later
  pub who : new.who ≡ old.who
  pub legal : IsLegal new
  pub opening : opening_of new.world ≡ opening_of old.world
  pub knowledge : knowledge_of new ≡ knowledge_of old
  pub no_job : RunsNoJob old new
  pub sums_are : sums ≡ totals new.world
