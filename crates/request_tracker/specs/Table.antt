-- The table of moves: what each move makes of a view in each state. The states are those of Glide's SingleRequest, the
-- moves those of its RequestTracker. That lines of a script make the moves, and layouts, are this project's own.
use Rattle.std.specs.Prelude.{ℕ, Bool, true, false, ◌||◌, if◌then◌else◌, Some, None}
use Rattle.std.specs.declared.option.Option.{Option}
use Rattle.std.specs.Option.{is_some}
use Rattle.cache_key.specs.declared.load_spec.LoadSpec.{LoadSpec}
use Rattle.request_tracker.specs.declared.views.Act.{Act}
use Rattle.request_tracker.specs.declared.views.Act.TheVariants as acts
use Rattle.request_tracker.specs.declared.views.Ask.{Ask}
use Rattle.request_tracker.specs.declared.views.Order.{Order}
use Rattle.request_tracker.specs.declared.views.View.{View}
use Rattle.request_tracker.specs.declared.views.ViewState.{ViewState}
use Rattle.request_tracker.specs.declared.views.ViewState.TheVariants.{Cleared, Waiting, Running, Complete, Failed, Paused}
use Rattle.request_tracker.specs.declared.turns.Turn.{Turn}
use Rattle.request_tracker.specs.declared.turns.Turn.TheVariants.{Stays, Begins, Pauses, Clears}

-- ---- what a move asks of a view, by its state

-- a load, where the tracker is paused or not
abbrev pub loaded : {C : Type 0} → Bool → ViewState C → Turn
loaded paused state = if paused then Pauses else Begins

-- a layout
abbrev pub laid_out : {C : Type 0} → ViewState C → Turn
laid_out Waiting = Begins
laid_out state = Stays

abbrev pub cleared : {C : Type 0} → ViewState C → Turn
cleared state = Clears

abbrev pub paused : {C : Type 0} → ViewState C → Turn
paused Waiting = Pauses
paused Running = Pauses
paused state = Stays

abbrev pub all_paused : {C : Type 0} → ViewState C → Turn
all_paused Waiting = Pauses
all_paused Running = Pauses
all_paused Complete = Pauses
all_paused state = Stays

abbrev pub resumed : {C : Type 0} → ViewState C → Turn
resumed Paused = Begins
resumed (Failed cause) = Begins
resumed state = Stays

-- a move that is made of each view in turn
abbrev pub acted : {C : Type 0} → Act → ViewState C → Turn
acted acts.Pause state = paused state
acted acts.PauseAll state = all_paused state
acted acts.Resume state = resumed state
acted acts.ClearAll state = cleared state

-- ---- what a turn does to a view, and what it orders

-- A view that runs or is complete has a hold, that of its load.
abbrev pub has_hold : {C : Type 0} → ViewState C → Bool
has_hold Running = true
has_hold Complete = true
has_hold state = false

-- The size that a picture is wanted at is known where the load names it, or a layout gave the view one.
abbrev pub has_size : {C : Type 0} → View C → Bool
has_size view = view.ask.sized || is_some view.size

-- Each turn but `Stays` drops the hold that is there.
abbrev pub drops : {C : Type 0} → Turn → ViewState C → Bool
drops Stays state = false
drops turn state = has_hold state

-- `Begins` begins where the size is known.
abbrev pub begins : {C : Type 0} → Turn → View C → Bool
begins Begins view = has_size view
begins turn view = false

-- the state after a turn: a view that is to begin waits where its size is not known
abbrev pub turned : {C : Type 0} → Turn → View C → ViewState C
turned Stays view = view.state
turned Begins view = if has_size view then Running else Waiting
turned Pauses view = Paused
turned Clears view = Cleared

abbrev pub after_turn : {C : Type 0} → Turn → View C → View C
after_turn turn view = record view { state = turned turn view }

-- what a turn of the view at this place orders
abbrev pub turn_order : {C : Type 0} → ℕ → Turn → View C → Order
turn_order place turn view = record { place = place; drop_hold = drops turn view.state; begin = begins turn view }

-- ---- what is asked for

-- in the size of a layout, if there was one
abbrev pub in_size : Option (ℕ × ℕ) → LoadSpec → LoadSpec
in_size None spec = spec
in_size (Some size) spec = record spec { key = record spec.key { width = size.0; height = size.1 } }

-- what a view asks for when it begins: its load's picture, in the size of the layout where the load names none
abbrev pub request : {C : Type 0} → View C → LoadSpec
request view = if view.ask.sized then view.ask.spec else in_size view.size view.ask.spec

-- ---- the end of a load

-- a view that runs is complete, or has failed; any other stays
abbrev pub collected : {C : Type 0} → Option C → ViewState C → ViewState C
collected None Running = Complete
collected (Some cause) Running = Failed cause
collected failed state = state
