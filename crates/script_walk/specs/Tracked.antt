-- The tracker of a walk: at each stage it has the walk's views without their begins, and each command makes of it what the
-- tracker's own moves do. This project's own.
use Rattle.std.specs.Prelude.{◌≡◌, ℕ, Bool, true, false, List, [], ◌∷◌, map, ⊤}
use Rattle.cache_key.specs.declared.load_spec.LoadSpec.{LoadSpec}
use Rattle.load_cause.specs.declared.causes.Cause.{Cause}
use Rattle.request_tracker.specs.declared.views.Act.{Act}
use Rattle.request_tracker.specs.declared.views.Act.TheVariants as acts
use Rattle.request_tracker.specs.declared.views.View.{View}
use Rattle.request_tracker.specs.Moves.{Tracked, moved, is_known, can_load, after_load, moved_by_name, layout_move, clear_move, act_move}
use Rattle.script_lines.specs.declared.commands.Command.{Command}
use Rattle.script_lines.specs.declared.commands.Command.TheVariants.{Load, Layout, Clear, ClearAll, Pause, PauseAll, Resume}
use Rattle.script_walk.specs.Walk.{WalkView, Outcome, Stage, Known, Made, has_name, names_of, can_obey, step}

abbrev pub tracked_view : WalkView → List ℕ × View Cause
tracked_view v = (v.name, v.view)

-- the tracker at a stage
abbrev pub tracked : Stage → Tracked Cause
tracked s = record { views = map tracked_view s.views; paused = s.paused }

-- the tracker after a command
abbrev pub after : Outcome → Stage → Command → Tracked Cause
after outcome s command = tracked (step outcome s command).stage

-- each name once
abbrev pub AreDistinct : List (List ℕ) → Type 0
AreDistinct [] = ⊤
AreDistinct (name ∷ names) = (has_name name names ≡ false) × AreDistinct names

-- every view makes the move of an act
abbrev pub acted_all : Act → Tracked Cause → Tracked Cause
acted_all act t = record t { views = map (λ view. (view.0, moved (act_move act) view.1)) t.views }

-- What the commands make of the tracker at this stage, and which can be obeyed there.
pub record FollowsTracker (outcome : Outcome) (s : Stage) : Type 0 where
  pub load : (view : List ℕ) (spec : LoadSpec) (sized : Bool)
      → after outcome s (Load view spec sized)
      ≡ after_load view (record { spec = spec; sized = sized }) (tracked s)
  pub layout : (view : List ℕ) (width height : ℕ)
      → after outcome s (Layout view width height) ≡ moved_by_name view (layout_move width height) (tracked s)
  pub clear : (view : List ℕ) → after outcome s (Clear view) ≡ moved_by_name view clear_move (tracked s)
  pub clear_all : after outcome s ClearAll ≡ acted_all acts.ClearAll (tracked s)
  pub pause : after outcome s Pause ≡ acted_all acts.Pause (record (tracked s) { paused = true })
  pub pause_all : after outcome s PauseAll ≡ acted_all acts.PauseAll (record (tracked s) { paused = true })
  pub resume : after outcome s Resume ≡ acted_all acts.Resume (record (tracked s) { paused = false })
  pub known : (view : List ℕ) → can_obey (Known view) (names_of s.views) ≡ is_known view (tracked s).views
  pub made : (view : List ℕ) → can_obey (Made view) (names_of s.views) ≡ can_load view (tracked s)
  pub distinct : (command : Command) → AreDistinct (names_of (step outcome s command).stage.views)

-- Where the names are distinct, as they are at first, and stay.
abbrev pub TrackerMakesTheMoves : Type 0
TrackerMakesTheMoves = (outcome : Outcome) (s : Stage)
    → AreDistinct (names_of s.views) → FollowsTracker outcome s
