-- What commands do to the states of views before these move.
use Rattle.std.proofs.Common.{◌≡◌, ℕ, true, false, cond, List, [], ◌∷◌, ◌++◌, None, Option, refl, ap, inl, inr}
use Rattle.std.specs.Prelude.{◌⊎◌, ⊤}
use Rattle.std.specs.Str.{bytes_eq}
use Rattle.request_tracker.specs.declared.views.Ask.{Ask}
use Rattle.request_tracker.specs.declared.views.View.{View}
use Rattle.request_tracker.specs.declared.views.ViewState.{ViewState}
use Rattle.request_tracker.specs.declared.views.ViewState.TheVariants.{Cleared}
use Rattle.request_tracker.specs.declared.views.Act.{Act}
use Rattle.request_tracker.specs.declared.views.Act.TheVariants as acts
use Rattle.request_tracker.specs.Moves.{Move, load_move, layout_move, clear_move, act_move, new_view}
use Rattle.load_cause.specs.declared.causes.Cause.{Cause}
use Rattle.script_lines.specs.declared.commands.Command.{Command}
use Rattle.script_lines.specs.declared.commands.Command.TheVariants.{Load, Layout, Clear, ClearAll, Pause, PauseAll, Resume, Trim, Wait, Show, Dump}
use Rattle.script_walk.specs.Walk.{Begin, WalkView, Stage, Effect, Moves, Gathers, Trims, no_move, only, every, has_name, names_of, with_view, effect}

-- a view's state and its last begin
abbrev pub Status : Type 0
Status = ViewState Cause × Option Begin

abbrev pub status : WalkView → Status
status v = (v.view.state, v.last)

abbrev pub statuses : List WalkView → List Status
statuses [] = []
statuses (v ∷ vs) = status v ∷ statuses vs

abbrev pub cleared : Status
cleared = (Cleared, None)

-- These are those, or those and a cleared one.
abbrev pub IsSet : List Status → List Status → Type 0
IsSet new old = (new ≡ old) ⊎ (new ≡ old ++ cleared ∷ [])

-- What a move sets in a view is not its state.
abbrev pub KeepsState : Move Cause → Type 0
KeepsState move = (view : View Cause) → (move.sets view).state ≡ view.state

abbrev pub KeepStates : (List ℕ → Move Cause) → Type 0
KeepStates moves = (name : List ℕ) → KeepsState (moves name)

pub only_keeps : (view : List ℕ) (move : Move Cause) → KeepsState move → KeepStates (only view move)
only_keeps view move keeps name = elim (bytes_eq view name) as (λ t. KeepsState (cond t move no_move)) [
  | true ↦ keeps
  | false ↦ λ other. refl
]

statuses-append : (xs ys : List WalkView) → statuses (xs ++ ys) ≡ statuses xs ++ statuses ys
statuses-append [] ys = refl
statuses-append (x ∷ xs) ys = ap (λ l. status x ∷ l) (statuses-append xs ys)

with_view_statuses : (name : List ℕ) (ask : Ask) (s : Stage) → IsSet (statuses (with_view name ask s).views) (statuses s.views)
with_view_statuses name ask s =
    let new : WalkView = record { name = name; view = new_view ask; last = None } in
    elim (has_name name (names_of s.views)) as (λ t. IsSet (statuses (cond t s.views (s.views ++ new ∷ []))) (statuses s.views)) [
      | true ↦ inl refl
      | false ↦ inr (statuses-append s.views (new ∷ []))
    ]

-- What a command sets before the views move are a new view and the pause, and moves set no states.
abbrev pub Sets : Stage → Effect → Type 0
Sets s (Moves set moves) =
    IsSet (statuses set.views) (statuses s.views) × (set.begun ≡ s.begun) × (set.gathers ≡ s.gathers) × KeepStates moves
Sets s (Gathers form shown) = ⊤
Sets s (Trims level) = ⊤

pub act_keeps : (act : Act) → KeepStates (every (act_move act))
act_keeps act name view = refl

pub effect_sets : (s : Stage) (command : Command) → Sets s (effect s command)
effect_sets s (Load view spec sized) =
    (with_view_statuses view (record { spec = spec; sized = sized }) s, refl, refl, only_keeps view (load_move s.paused (record { spec = spec; sized = sized })) (λ v. refl))
effect_sets s (Layout view width height) = (inl refl, refl, refl, only_keeps view (layout_move width height) (λ v. refl))
effect_sets s (Clear view) = (inl refl, refl, refl, only_keeps view clear_move (λ v. refl))
effect_sets s ClearAll = (inl refl, refl, refl, act_keeps acts.ClearAll)
effect_sets s Pause = (inl refl, refl, refl, act_keeps acts.Pause)
effect_sets s PauseAll = (inl refl, refl, refl, act_keeps acts.PauseAll)
effect_sets s Resume = (inl refl, refl, refl, act_keeps acts.Resume)
effect_sets s (Trim level) = tt
effect_sets s Wait = tt
effect_sets s Show = tt
effect_sets s (Dump view) = tt
