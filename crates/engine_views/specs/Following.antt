-- The program's views beside those of a walk of the script. This project's own.
use Rattle.std.specs.Prelude.{◌≡◌, ℕ, ◌+◌, ◌<◌, ◌≤◌, List, [], ◌∷◌, IfSome, ⊤, Some, None, Ok, Result}
use Rattle.std.specs.declared.option.Option.{Option}
use Rattle.bitmap_kind.specs.Picture.{Picture}
use Rattle.load_cause.specs.declared.causes.Cause.{Cause}
use Rattle.request_tracker.specs.declared.views.Act.{Act}
use Rattle.request_tracker.specs.declared.views.Act.TheVariants as acts
use Rattle.request_tracker.specs.declared.views.ViewState.{ViewState}
use Rattle.request_tracker.specs.declared.views.ViewState.TheVariants.{Running, Complete}
use Rattle.request_tracker.specs.Limits.{views_limit}
use Rattle.script_lines.specs.declared.commands.Command.{Command}
use Rattle.script_lines.specs.declared.commands.Command.TheVariants as commands
use Rattle.script_walk.specs.Walk.{Begin, WalkView, Outcome, Stage, names_of, step}
use Rattle.script_walk.specs.Tracked.{AreDistinct, tracked}
use Rattle.engine_shared.specs.Tokens.{HoldValue}
use Rattle.engine_shared.specs.Caller.{Caller, knowledge_of, HasLoad, HasReadyLoad}
use Rattle.fetch_bounds.specs.Follows.{IsLoadOf}
use Rattle.engine_views.specs.Held.{Holds, Held, loads_in}
use Rattle.engine_views.specs.Owner.{HasJust, Adds}
use Rattle.engine_views.specs.JobRuns.{RunsNoJob}

-- ---- what a view holds

-- The load is the begin's, and asks for its picture.
pub record IsBeginsLoad (begin : Begin) (load : HoldValue) : Type 0 where
  pub number : IsLoadOf begin load.number
  pub key : load.key ≡ begin.spec.key

-- The caller was answered Ready for the load, which shows what this came to.
pub record Shows (c : Caller) (load : HoldValue) (result : Result Picture Cause) : Type 0 where
  pub ready : HasReadyLoad c load
  pub is : result ≡ Ok ready.picture

-- A view of the walk holds this in the program: one that runs, the load of its last begin; a complete one, that load, which
-- shows the picture that the begin came to; any other, nothing.
abbrev pub IsHoldAt : Caller → Outcome → ViewState Cause → Option Begin → Option HoldValue → Type 0
IsHoldAt c outcome Running (Some begin) (Some load) = IsBeginsLoad begin load × HasLoad c load
IsHoldAt c outcome Complete (Some begin) (Some load) = IsBeginsLoad begin load × Shows c load (outcome begin)
IsHoldAt c outcome Running last hold = ⊥
IsHoldAt c outcome Complete last hold = ⊥
IsHoldAt c outcome state last hold = hold ≡ None

abbrev pub AreHolds : Caller → Outcome → List WalkView → Holds → Type 0
AreHolds c outcome [] [] = ⊤
AreHolds c outcome (v ∷ vs) (hold ∷ holds) = IsHoldAt c outcome v.view.state v.last hold × AreHolds c outcome vs holds
AreHolds c outcome views holds = ⊥

-- ---- last begins

-- The last begin of a view is its own. That of a view that runs came after so many gathers, which are all that there were, and
-- that of a complete one before the last of them.
pub record IsLastBegin (gathers : ℕ) (v : WalkView) (begin : Begin) : Type 0 where
  pub view_is : begin.view ≡ v.name
  pub running : v.view.state ≡ Running → begin.gathers ≡ gathers
  pub complete : v.view.state ≡ Complete → begin.gathers < gathers

abbrev pub AreLastBegins : ℕ → List WalkView → Type 0
AreLastBegins gathers [] = ⊤
AreLastBegins gathers (v ∷ vs) = IfSome v.last (IsLastBegin gathers v) × AreLastBegins gathers vs

-- ---- where the program stands

-- the engine's caller and the views at one moment
pub record Standing : Type 0 where
  pub caller : Caller
  pub held : Held

abbrev pub standing : Caller → Held → Standing
standing caller held = record { caller = caller; held = held }

-- The program's views stand where the walk stands, for what its begins came to so far; and the caller has the loads that the
-- views hold and no others, of as many as there were begins.
pub record Follows (outcome : Outcome) (s : Stage) (at : Standing) : Type 0 where
  pub just : HasJust at.caller (loads_in at.held.holds)
  pub begun : (knowledge_of at.caller).begun ≡ s.begun
  pub tracked_is : at.held.tracked ≡ tracked s
  pub distinct : AreDistinct (names_of s.views)
  pub begins : AreLastBegins s.gathers s.views
  pub holds : AreHolds at.caller outcome s.views at.held.holds

-- They stand somewhere on a walk.
abbrev pub IsOnWalk : Standing → Type 0
IsOnWalk at = (outcome : Outcome) × (s : Stage) × Follows outcome s at

-- The view is complete, and shows this load's picture, which its last begin came to.
pub record IsShown (c : Caller) (outcome : Outcome) (v : WalkView) (load : HoldValue) : Type 0 where
  pub complete : v.view.state ≡ Complete
  pub begin : Begin
  pub last : v.last ≡ Some begin
  pub number : IsLoadOf begin load.number
  pub shows : Shows c load (outcome begin)

-- ---- moves

-- A command that only moves views was obeyed where the walk stands at this stage: the views stand where it goes on, and the
-- engine was told of just what happened there.
pub record IsMoved (command : Command) (outcome : Outcome) (s : Stage) (old new : Standing) : Type 0 where
  pub follows : Follows outcome (step outcome s command).stage new
  pub adds : (begun : List Begin) → Adds old.caller new.caller begun (step outcome s command).events
  pub no_job : RunsNoJob old.caller new.caller
  pub few : (knowledge_of new.caller).begun ≤ (knowledge_of old.caller).begun + views_limit

-- It was obeyed wherever the views stood on a walk.
abbrev pub Moves : Command → Standing → Standing → Type 0
Moves command old new = (outcome : Outcome) (s : Stage) → Follows outcome s old → IsMoved command outcome s old new

-- the command that is made of each view in turn
abbrev pub act_command : Act → Command
act_command acts.Pause = commands.Pause
act_command acts.PauseAll = commands.PauseAll
act_command acts.Resume = commands.Resume
act_command acts.ClearAll = commands.ClearAll

-- A call that wanted memory did nothing to the engine, and the same loads are held.
pub record IsUnmoved (old new : Standing) : Type 0 where
  pub caller : new.caller ≡ old.caller
  pub loads : loads_in new.held.holds ≡ loads_in old.held.holds
