-- What the tracker's orders do to the holds, and to the engine.
use Rattle.std.specs.Prelude.{◌≡◌, ℕ, ◌+◌, ◌≤◌, Bool, true, false, List, [], ◌∷◌, ◌++◌, length, if◌then◌else◌, slice_get, slice_set, suc, Some, None, IsSome, ⊤}
use Rattle.std.specs.declared.option.Option.{Option}
use Rattle.std.specs.Option.{option_map}
use Rattle.cache_key.specs.declared.load_spec.LoadSpec.{LoadSpec}
use Rattle.load_cause.specs.declared.causes.Cause.{Cause}
use Rattle.request_tracker.specs.declared.views.Act.{Act}
use Rattle.request_tracker.specs.declared.views.Act.TheVariants as acts
use Rattle.request_tracker.specs.declared.views.Order.{Order}
use Rattle.request_tracker.specs.declared.views.View.{View}
use Rattle.request_tracker.specs.Table.{begins, request}
use Rattle.request_tracker.specs.Moves.{Move, Tracked, Views, moved, move_order, view_at}
use Rattle.engine_world.specs.declared.events.Event.TheVariants as events
use Rattle.engine_world.specs.declared.events.NotedReply.{NotedReply}
use Rattle.engine_world.specs.declared.events.NotedReply.TheVariants as replies
use Rattle.engine_shared.specs.Tokens.{HoldValue}
use Rattle.engine_shared.specs.Caller.{Caller, knowledge_of, IsCall, HasLoad}
use Rattle.script_walk.specs.Walk.{Begin, Outcome, Stage}
use Rattle.script_walk.specs.Tracked.{tracked}
use Rattle.script_walk.specs.ByPlace.{steps_from}
use Rattle.engine_views.specs.Held.{Holds, loads_in}
use Rattle.engine_views.specs.Owner.{HasJust, Adds}
use Rattle.engine_views.specs.Following.{Standing, AreHolds, AreLastBegins}
use Rattle.engine_views.specs.JobRuns.{RunsNoJob}
use Rattle.engine_views.specs.declared.turned.Turned.{Turned}

-- ---- one order

-- what the view of an order asks for, where it is to begin
abbrev pub asked_by : Order → Tracked Cause → Option LoadSpec
asked_by order tracked = if order.begin then option_map request (view_at order.place tracked.views) else None

-- Where a load is to begin, and nothing is dropped before, nothing is held.
abbrev pub IsFreeFor : Turned → Holds → Type 0
IsFreeFor turned holds =
    IsSome turned.spec → turned.order.drop_hold ≡ false → slice_get holds turned.order.place ≡ Some None

-- A load is released, where there is one.
abbrev pub Released : Option HoldValue → Caller → Caller → Type 0
Released None old new = new ≡ old
Released (Some load) old new = IsCall old (events.Release load.number) replies.Done new

-- What is held at a place is released.
pub record LetsGo (place : ℕ) (old new : Standing) : Type 0 where
  pub hold : Option HoldValue
  pub was : slice_get old.held.holds place ≡ Some hold
  pub released : Released hold old.caller new.caller
  pub holds_are : new.held.holds ≡ slice_set old.held.holds place None

-- A reply to a load that was not refused.
abbrev pub IsAccepted : NotedReply → Type 0
IsAccepted replies.Ready = ⊤
IsAccepted (replies.Joined j) = ⊤
IsAccepted (replies.Started j) = ⊤
IsAccepted reply = ⊥

-- A load of this begins at a place.
pub record HasBegun (place : ℕ) (spec : LoadSpec) (old new : Standing) : Type 0 where
  pub load : HoldValue
  pub reply : NotedReply
  pub accepted : IsAccepted reply
  pub call : IsCall old.caller (events.Load spec) reply new.caller
  pub number : load.number ≡ (knowledge_of old.caller).begun
  pub key : load.key ≡ spec.key
  pub has : HasLoad new.caller load
  pub holds_are : new.held.holds ≡ slice_set old.held.holds place (Some load)

-- A load begins, where one is asked for.
abbrev pub Begins : ℕ → Option LoadSpec → Standing → Standing → Type 0
Begins place None old new = new ≡ old
Begins place (Some spec) old new = HasBegun place spec old new

-- the holds, with that of a view that is made, which comes last
abbrev pub with_hold : Bool → Holds → Holds
with_hold known holds = if known then holds else holds ++ None ∷ []

-- What is held is released, where that is ordered.
abbrev pub Drops : Bool → ℕ → Standing → Standing → Type 0
Drops true place old new = LetsGo place old new
Drops false place old new = new ≡ old

pub record Obeys (turned : Turned) (old new : Standing) : Type 0 where
  pub between : Standing
  pub drops : Drops turned.order.drop_hold turned.order.place old between
  pub begins : Begins turned.order.place turned.spec between new

-- ---- all orders of a move

-- the order of a view that makes a move, and what it asks for by then
abbrev pub turned_by : ℕ → Move Cause → View Cause → Turned
turned_by place move view = record {
  order = move_order place move view;
  spec = if begins (move.turn view.state) (move.sets view) then Some (request (moved move view)) else None;
}

abbrev pub orders_from : ℕ → Move Cause → Views Cause → List Turned
orders_from place move [] = []
orders_from place move (view ∷ views) = turned_by place move view.1 ∷ orders_from (suc place) move views

-- those of all views, each of which makes the move
abbrev pub orders_of : Move Cause → Views Cause → List Turned
orders_of move views = orders_from 0 move views

-- whether loads are paused after an act
abbrev pub paused_after : Act → Bool → Bool
paused_after acts.Pause paused = true
paused_after acts.PauseAll paused = true
paused_after acts.Resume paused = false
paused_after acts.ClearAll paused = paused

-- The holds and the engine stand where the walk stands. Nothing is said of the tracker.
pub record Stands (outcome : Outcome) (s : Stage) (at : Standing) : Type 0 where
  pub just : HasJust at.caller (loads_in at.held.holds)
  pub begun : (knowledge_of at.caller).begun ≡ s.begun
  pub begins : AreLastBegins s.gathers s.views
  pub holds : AreHolds at.caller outcome s.views at.held.holds

-- A move that sets no state.
abbrev pub KeepsStates : Move Cause → Type 0
KeepsStates move = (view : View Cause) → (move.sets view).state ≡ view.state

-- They are the orders of such a move, where the holds stand on a walk.
abbrev pub CanObeyAll : List Turned → Standing → Type 0
CanObeyAll all at = (outcome : Outcome) × (s : Stage) × (move : Move Cause) × KeepsStates move
    × Stands outcome s at × (all ≡ orders_of move (tracked s).views)

-- Each view of the walk made the move, one after the other, and so did the holds.
pub record HasObeyedAll (outcome : Outcome) (s : Stage) (move : Move Cause) (old new : Standing) : Type 0 where
  pub stands : Stands outcome (steps_from (length s.views) 0 move s).stage new
  pub adds : (begun : List Begin)
      → Adds old.caller new.caller begun (steps_from (length s.views) 0 move s).events
  pub no_job : RunsNoJob old.caller new.caller
  pub few : (knowledge_of new.caller).begun ≤ (knowledge_of old.caller).begun + length s.views

abbrev pub ObeysAll : List Turned → Standing → Standing → Type 0
ObeysAll all old new = (outcome : Outcome) (s : Stage) (move : Move Cause) → KeepsStates move
    → Stands outcome s old → all ≡ orders_of move (tracked s).views → HasObeyedAll outcome s move old new
