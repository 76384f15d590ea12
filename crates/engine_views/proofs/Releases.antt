-- The releases of what views hold, beside the end of a walk.
use Rattle.std.proofs.Common.{◌≡◌, ℕ, ◌+◌, if◌then◌else◌, List, [], ◌∷◌, ◌++◌, Some, None, Option, inr, subst}
use Rattle.std.specs.Option.{option_to_list}
use Rattle.load_cause.specs.declared.causes.Cause.{Cause}
use Rattle.request_tracker.specs.declared.views.Act.TheVariants as acts
use Rattle.request_tracker.specs.declared.views.ViewState.{ViewState}
use Rattle.request_tracker.specs.declared.views.ViewState.TheVariants.{Cleared, Waiting, Running, Complete, Failed, Paused}
use Rattle.request_tracker.specs.Table.{has_hold}
use Rattle.request_tracker.specs.Moves.{act_move}
use Rattle.state_machine.specs.declared.entry.Entry.{Entry}
use Rattle.engine_world.specs.declared.events.Note.{Note}
use Rattle.engine_shared.specs.Tokens.{HoldValue}
use Rattle.engine_shared.specs.Caller.{Caller}
use Rattle.script_walk.specs.Walk.{Begin, WalkView, Outcome, TraceEvent, drop_events, moved_view, held, each_move, every}
use Rattle.fetch_bounds.specs.Follows as followed
use Rattle.engine_views.specs.Held.{Holds, loads_in}
use Rattle.engine_views.specs.Following.{IsHoldAt, AreHolds}
use Rattle.engine_views.specs.Closing.{AreReleases, ReleasesEndWalks}

-- what follows the release of one view
module _ (c : Caller) (outcome : Outcome) (begun : List Begin) (events : List TraceEvent) (loads : List HoldValue) (go : (es : List (Entry Note)) → AreReleases loads es → followed.Follows begun events es) where
  nothing : (hold : Option HoldValue) (es : List (Entry Note)) → hold ≡ None → AreReleases (option_to_list hold ++ loads) es → followed.Follows begun events es
  nothing hold es is are = go es (subst (λ h. AreReleases (option_to_list h ++ loads) es) is are)

  drops : (begin : Begin) (load : HoldValue) (es : List (Entry Note)) → followed.IsLoadOf begin load.number → AreReleases (load ∷ loads) es → followed.Follows begun (TraceEvent.Dropped begin ∷ events) es
  drops begin load [] number are = absurd are
  drops begin load (e ∷ es) number are = inr (are.0, (load.number, number, are.1), go es are.2)

  one : (state : ViewState Cause) (last : Option Begin) (hold : Option HoldValue) (es : List (Entry Note)) → IsHoldAt c outcome state last hold → AreReleases (option_to_list hold ++ loads) es
      → followed.Follows begun ((drop_events (if has_hold state then last else None) ++ []) ++ events) es
  one Cleared last hold es is are = nothing hold es is are
  one Waiting last hold es is are = nothing hold es is are
  one Paused last hold es is are = nothing hold es is are
  one (Failed cause) last hold es is are = nothing hold es is are
  one Running None hold es is are = absurd is
  one Running (Some begin) None es is are = absurd is
  one Running (Some begin) (Some load) es is are = drops begin load es is.0.number are
  one Complete None hold es is are = absurd is
  one Complete (Some begin) None es is are = absurd is
  one Complete (Some begin) (Some load) es is are = drops begin load es is.0.number are

all : (c : Caller) (outcome : Outcome) (begun : List Begin) (count gathers : ℕ) (before : List Begin) (vs : List WalkView) (holds : Holds) (es : List (Entry Note)) → AreHolds c outcome vs holds → AreReleases (loads_in holds) es
    → followed.Follows begun (each_move (every (act_move acts.ClearAll)) count gathers before vs).events es
all c outcome begun count gathers before [] [] [] is are = tt
all c outcome begun count gathers before [] [] (e ∷ es) is are = absurd are
all c outcome begun count gathers before [] (hold ∷ holds) es is are = absurd is
all c outcome begun count gathers before (v ∷ vs) [] es is are = absurd is
all c outcome begun count gathers before (v ∷ vs) (hold ∷ holds) es is are =
    let move = act_move {C = Cause} acts.ClearAll in
    let new = moved_view move None v in
    let rest = (each_move (every (act_move acts.ClearAll)) (count + 0) gathers (before ++ held new) vs).events in
    one c outcome begun rest (loads_in holds) (λ later are_later. all c outcome begun (count + 0) gathers (before ++ held new) vs holds later is.1 are_later) v.view.state v.last hold es is.0 are

pub releases_end_walks : ReleasesEndWalks
releases_end_walks outcome s at begun es follows are = all at.caller outcome begun s.begun s.gathers [] s.views at.held.holds es follows.holds are
