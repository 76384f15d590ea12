-- What printing a view, or all views, does to a sink, and asks of the engine, by where the walk stands.
use Rattle.std.specs.Prelude.{◌≡◌, Bool, true, List, [], ◌∷◌, Some, None, Ok, Err, Result, IfOk, OnOk, ⊤}
use Rattle.std.specs.declared.option.Option.{Option}
use Rattle.std.specs.List.{list_any}
use Rattle.outside.specs.declared.sinks.Sink as sinks
use Rattle.outside.specs.declared.sinks.WriteFault.{WriteFault}
use Rattle.load_cause.specs.declared.causes.Cause.{Cause}
use Rattle.request_tracker.specs.declared.views.ViewState.{ViewState}
use Rattle.request_tracker.specs.declared.views.ViewState.TheVariants as states
use Rattle.printed_lines.specs.declared.words.PlainState.{PlainState}
use Rattle.printed_lines.specs.declared.words.PlainState.TheVariants as plain
use Rattle.printed_lines.specs.Printed.{lines_text, says_failed}
use Rattle.printed_lines.specs.Writes.{Writes}
use Rattle.script_walk.specs.Walk.{Begin, Outcome, WalkView, TraceEvent, Form, Digest, view_line, printed, print_events}
use Rattle.script_walk.specs.Ends.{lines_in}
use Rattle.engine_shared.specs.Caller.{Caller}
use Rattle.fetch_bounds.specs.Follows as followed
use Rattle.engine_views.specs.Held.{Held}
use Rattle.glide_run.specs.inside.Looks.{Asks}

-- the state of a view that shows no picture; a view that runs has no line, and a complete one shows its picture
abbrev pub plain_state_of : ViewState Cause → Option PlainState
plain_state_of (states.Failed cause) = Some (plain.Failed cause)
plain_state_of states.Waiting = Some plain.Waiting
plain_state_of states.Paused = Some plain.Paused
plain_state_of states.Cleared = Some plain.Cleared
plain_state_of states.Running = None
plain_state_of states.Complete = None

-- whether a call that prints succeeded
abbrev pub written : {A : Type 0} → Result A WriteFault → Result ⊤ WriteFault
written (Ok failing) = Ok tt
written (Err fault) = Err fault

-- whether a line of these events says that a view failed
abbrev pub failing_in : List TraceEvent → Bool
failing_in events = list_any says_failed (lines_in events)

-- a sink, and the caller of the engine whose pictures are printed to it, at one moment
pub record Printer (W : Type 0) : Type 0 where
  pub out : W
  pub caller : Caller

abbrev pub printer : {W : Type 0} → W → Caller → Printer W
printer out caller = record { out = out; caller = caller }

-- The last begin of a view is the last one of its name among these, of which the last stands first.
abbrev pub IsLastIn : List Begin → WalkView → Type 0
IsLastIn begun v = followed.last_of v.name begun ≡ v.last

abbrev pub AreLastIn : List Begin → List WalkView → Type 0
AreLastIn begun [] = ⊤
AreLastIn begun (v ∷ vs) = IsLastIn begun v × AreLastIn begun vs

module _ {W : Type 0} (sink : sinks.Ghosts W) (held : Held) where
  -- What these events print was written, or a prefix of it and then a fault, and the answer says whether a line of it says
  -- failed. The engine was asked for just the pictures of their lines, where the begins that are known are so.
  pub record Prints (Known : List Begin → Type 0) (events : List TraceEvent) (old new : Printer W)
      (result : Result Bool WriteFault) : Type 0 where
    pub writes : Writes sink old.out new.out (lines_text (lines_in events)) (written result)
    pub failing : IfOk result (λ failing. failing ≡ failing_in events)
    pub asks : Asks held followed.AllWork old.caller new.caller
    pub told : OnOk result
        ((begun : List Begin) → Known begun → Asks held (followed.Follows begun events) old.caller new.caller)

  -- the line of a view in this form
  abbrev pub PrintsView : Outcome → Form → WalkView → (old new : Printer W) → Result Bool WriteFault → Type 0
  PrintsView outcome form v old new result =
      Prints (λ begun. IsLastIn begun v) (printed (view_line outcome form v)) old new result

  -- the lines of all views, by their digests
  abbrev pub PrintsViews : Outcome → List WalkView → (old new : Printer W) → Result Bool WriteFault → Type 0
  PrintsViews outcome views old new result =
      Prints (λ begun. AreLastIn begun views)
      (print_events outcome Digest (λ name. true) views) old new result
