-- What the calls that obey a command answer and leave.
use Rattle.std.specs.Prelude.{◌≡◌, ℕ, ◌+◌, ◌≤◌, ◌⊎◌, Bool, true, false, List, [], ◌∷◌, Ok, Err, Result}
use Rattle.std.specs.Io.KnownBytes.{Appends}
use Rattle.outside.specs.declared.sinks.Sink as sinks
use Rattle.outside.specs.declared.sources.Source as sources
use Rattle.request_tracker.specs.Limits.{views_limit}
use Rattle.request_tracker.specs.Moves.{names}
use Rattle.script_lines.specs.declared.commands.Command.{Command}
use Rattle.printed_lines.specs.Printed.{lines_text}
use Rattle.script_walk.specs.Walk.{Begin, Outcome, TraceEvent, Dropped, Begun, Ended, Trimmed, Printed, Stage, gather_events, names_in, can_obey, step}
use Rattle.script_walk.specs.Ends.{lines_in}
use Rattle.script_walk.specs.Laws.{EachEnd}
use Rattle.engine_shared.specs.Caller.{Caller, knowledge_of, content_of}
use Rattle.engine_views.specs.Held.{Held}
use Rattle.engine_views.specs.Owner.{Adds}
use Rattle.engine_views.specs.Following.{Standing, standing, Follows, Moves, IsUnmoved}
use Rattle.engine_views.specs.JobRuns.{Worker, worker, RunsJobs}
use Rattle.engine_views.specs.Gathers.{AgreeBefore, IsRight, gathered_stage}
use Rattle.glide_run.specs.Built.{is_built}
use Rattle.glide_run.specs.Handed.{IsWritten}
use Rattle.glide_run.specs.inside.Prints.{AreLastIn, failing_in}
use Rattle.glide_run.specs.declared.run.Troubles.{Troubles}
use Rattle.glide_run.specs.declared.run.Obeyed as code
use Rattle.glide_run.specs.declared.run.Obeyed.TheVariants as obeyed
use Rattle.glide_run.specs.declared.run.Stop.{Stop}

abbrev pub no_troubles : Troubles
no_troubles = record { failing = false; wanting = false }

-- the sink, the engine's caller, the source and the views between two commands
pub record Moment (W S : Type 0) : Type 0 where
  pub out : W
  pub caller : Caller
  pub source : S
  pub views : Held

abbrev pub moment : {W S : Type 0} → W → Caller → S → Held → Moment W S
moment out caller source views = record { out = out; caller = caller; source = source; views = views }

abbrev pub standing_at : {W S : Type 0} → Moment W S → Standing
standing_at now = standing now.caller now.views

abbrev pub worker_at : {W S : Type 0} → Moment W S → Worker S
worker_at now = worker now.caller now.source

-- what happens without the lines that are printed
abbrev pub unprinted : List TraceEvent → List TraceEvent
unprinted [] = []
unprinted (Dropped begin ∷ events) = Dropped begin ∷ unprinted events
unprinted (Begun begin others ∷ events) = Begun begin others ∷ unprinted events
unprinted (Ended begin result ∷ events) = Ended begin result ∷ unprinted events
unprinted (Trimmed level ∷ events) = Trimmed level ∷ unprinted events
unprinted (Printed line ∷ events) = unprinted events

-- whether a command can be obeyed where the views are these
abbrev pub can_obey_at : Command → Held → Bool
can_obey_at command views = can_obey (names_in command) (names views.tracked.views)

-- What a command is answered that only moves views.
abbrev pub MovesGive : Command → {E : Type 0} → Result code.Obeyed E → (old new : Standing) → Type 0
MovesGive command (Ok (obeyed.Done troubles)) old new =
    (troubles ≡ no_troubles) × (can_obey_at command old.held ≡ true) × Moves command old new
MovesGive command (Ok obeyed.Bad) old new = (can_obey_at command old.held ≡ false) × IsUnmoved old new
MovesGive command (Err fault) old new = IsUnmoved old new

module _ {W S : Type 0} (sink : sinks.Ghosts W) (source : sources.Ghosts S) where
  -- A command was obeyed where the walk stands at this stage. What its begins came to is known next: the views stand where the
  -- walk goes on, the engine was told of just what happened there, and its lines are written.
  pub record IsObeyed (command : Command) (troubles : Troubles) (outcome : Outcome) (s : Stage)
      (old new : Moment W S) : Type 0 where
    pub next : Outcome
    pub known : AgreeBefore s.gathers outcome next
    pub follows : Follows next (step next s command).stage (standing_at new)
    pub adds : (begun : List Begin) → AreLastIn begun s.views
        → Adds old.caller new.caller begun (step next s command).events
    pub right : EachEnd (IsRight (content_of old.caller)) (step next s command).events
    pub jobs : RunsJobs source troubles.wanting (worker_at old) (worker_at new)
    pub written : Appends (sink.written old.out) (sink.written new.out)
        (lines_text (lines_in (step next s command).events))
    pub failing_is : troubles.failing ≡ failing_in (step next s command).events
    pub few : (knowledge_of new.caller).begun ≤ (knowledge_of old.caller).begun + views_limit

  -- It can be obeyed, and gathers: its begins had come to their ends, and a prefix of its lines was written.
  pub record IsTorn (command : Command) (outcome : Outcome) (s : Stage) (old new : Moment W S) : Type 0 where
    pub built : is_built command ≡ true
    pub can : can_obey_at command old.views ≡ true
    pub next : Outcome
    pub known : AgreeBefore s.gathers outcome next
    pub gathers : (step next s command).stage ≡ gathered_stage next s
    pub only : unprinted (step next s command).events ≡ unprinted (gather_events next s.views)
    pub follows : Follows next (gathered_stage next s) (standing_at new)
    pub adds : (begun : List Begin) → Adds old.caller new.caller begun (gather_events next s.views)
    pub right : EachEnd (IsRight (content_of old.caller)) (gather_events next s.views)
    pub wanting : Bool
    pub jobs : RunsJobs source wanting (worker_at old) (worker_at new)
    pub written : IsWritten sink old.out new.out (lines_text (lines_in (step next s command).events)) ⊥

  -- Memory was wanting, or the command cannot be obeyed, before the engine was called.
  pub record IsUntouched (old new : Moment W S) : Type 0 where
    pub unmoved : IsUnmoved (standing_at old) (standing_at new)
    pub unasked : new.source ≡ old.source
    pub unwritten : new.out ≡ old.out

  abbrev pub IsStopped : Command → Outcome → Stage → (old new : Moment W S) → Type 0
  IsStopped command outcome s old new = IsUntouched old new ⊎ IsTorn command outcome s old new

  -- what obeying a command answers, at each stage of a walk where the views may stand
  abbrev pub Gives : Command → Result code.Obeyed Stop → (old new : Moment W S) → Type 0
  Gives command (Ok (obeyed.Done troubles)) old new = (is_built command ≡ true)
      × (can_obey_at command old.views ≡ true)
      × ((outcome : Outcome) (s : Stage) → Follows outcome s (standing_at old)
      → IsObeyed command troubles outcome s old new)
  Gives command (Ok obeyed.Bad) old new =
      ((is_built command ≡ false) ⊎ (can_obey_at command old.views ≡ false)) × IsUntouched old new
  Gives command (Err stop) old new = (outcome : Outcome) (s : Stage) → Follows outcome s (standing_at old)
      → IsStopped command outcome s old new
