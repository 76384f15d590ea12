-- The moves of a walk place by place, as a program makes them that keeps its views in a tracker. This project's own.
use Rattle.std.specs.Prelude.{◌≡◌, ℕ, ◌+◌, List, [], ◌∷◌, ◌++◌, length, zero, suc, Some}
use Rattle.std.specs.Option.{option_len}
use Rattle.load_cause.specs.declared.causes.Cause.{Cause}
use Rattle.request_tracker.specs.Moves.{Move, place_of, moved_at}
use Rattle.script_walk.specs.Walk.{Begin, WalkView, Stage, Step, Moved, held, all_held, begin_by, moved_view, move_events, each_move, only, every, names_of, after_moves, stay, then_step}
use Rattle.script_walk.specs.Tracked.{AreDistinct, tracked}

-- The view at this place makes a move, and the others stay. `before` is what the views before these hold.
abbrev pub move_at : ℕ → Move Cause → Stage → (before : List Begin) → List WalkView → Moved
move_at place move s before [] = record { views = []; begun = s.begun; events = [] }
move_at zero move s before (v ∷ vs) =
    let begin = begin_by move (s.begun + 1) s.gathers v in
    record {
      views = moved_view move begin v ∷ vs;
      begun = s.begun + option_len begin;
      events = move_events move begin (before ++ all_held vs) v;
    }
move_at (suc place) move s before (v ∷ vs) =
    let rest = move_at place move s (before ++ held v) vs in
    record { views = v ∷ rest.views; begun = rest.begun; events = rest.events }

abbrev pub step_at : ℕ → Move Cause → Stage → Step
step_at place move s = after_moves s (move_at place move s [] s.views)

-- so many views, from this place on, make the move one after the other
abbrev pub steps_from : (count place : ℕ) → Move Cause → Stage → Step
steps_from zero place move s = stay s
steps_from (suc count) place move s =
    let first = step_at place move s in then_step first (steps_from count (suc place) move first.stage)

-- the stage after each view made its move
abbrev pub after_each : (List ℕ → Move Cause) → Stage → Step
after_each moves s = after_moves s (each_move moves s.begun s.gathers [] s.views)

-- A move of all views is one of the view at each place in turn; a move of one view alone is one of the view at its place; and
-- the tracker's move at a place is the walk's.
pub record GoesByPlace (s : Stage) (move : Move Cause) : Type 0 where
  pub all : after_each (every move) s ≡ steps_from (length s.views) 0 move s
  pub one : (name : List ℕ) (place : ℕ) → AreDistinct (names_of s.views) → place_of name (tracked s).views ≡ Some place
      → after_each (only name move) s ≡ step_at place move s
  pub tracks : (place : ℕ) → tracked (step_at place move s).stage ≡ moved_at place move (tracked s)

abbrev pub MovesGoByPlace : Type 0
MovesGoByPlace = (s : Stage) (move : Move Cause) → GoesByPlace s move
