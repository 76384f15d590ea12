-- The views of a script by name, in order of first load, and the moves of one of them. This project's own.
use Rattle.std.specs.Prelude.{◌≡◌, ℕ, ◌<◌, IsTrue, Bool, false, nat_lt, ◌||◌, List, [], ◌∷◌, ◌++◌, length, map, position, slice_get, if◌then◌else◌, zero, suc, Some, None}
use Rattle.std.specs.declared.option.Option.{Option}
use Rattle.std.specs.List.{position_or_len}
use Rattle.std.specs.Option.{is_some, option_map, option_map_or, option_and_then}
use Rattle.std.specs.Str.{bytes_eq}
use Rattle.request_tracker.specs.declared.views.Act.{Act}
use Rattle.request_tracker.specs.declared.views.Ask.{Ask}
use Rattle.request_tracker.specs.declared.views.Order.{Order}
use Rattle.request_tracker.specs.declared.views.View.{View}
use Rattle.request_tracker.specs.declared.views.ViewState.{ViewState}
use Rattle.request_tracker.specs.declared.views.ViewState.TheVariants.{Cleared, Running}
use Rattle.request_tracker.specs.declared.turns.Turn.{Turn}
use Rattle.request_tracker.specs.Limits.{views_limit}
use Rattle.request_tracker.specs.Table.{loaded, laid_out, cleared, acted, after_turn, turn_order, collected}

-- views by name, in order of first load
abbrev pub Views : Type 0 → Type 0
Views C = List (List ℕ × View C)

-- the views, and whether the tracker is paused
pub record Tracked (C : Type 0) : Type 0 where
  pub views : Views C
  pub paused : Bool

abbrev pub no_views : {C : Type 0} → Tracked C
no_views = record { views = []; paused = false }

-- ---- places

abbrev pub names : {C : Type 0} → Views C → List (List ℕ)
names views = map (λ view. view.0) views

-- the place of the view of this name, from 0
abbrev pub place_of : {C : Type 0} → List ℕ → Views C → Option ℕ
place_of name views = position (bytes_eq name) (names views)

abbrev pub is_known : {C : Type 0} → List ℕ → Views C → Bool
is_known name views = is_some (place_of name views)

abbrev pub name_at : {C : Type 0} → ℕ → Views C → Option (List ℕ)
name_at place views = option_map (λ view. view.0) (slice_get views place)

abbrev pub view_at : {C : Type 0} → ℕ → Views C → Option (View C)
view_at place views = option_map (λ view. view.1) (slice_get views place)

abbrev pub state_at : {C : Type 0} → ℕ → Views C → Option (ViewState C)
state_at place views = option_map (λ view. view.state) (view_at place views)

-- a change of the view at this place
abbrev pub changed_at : {C : Type 0} → ℕ → (View C → View C) → Views C → Views C
changed_at place change [] = []
changed_at zero change (view ∷ views) = (view.0, change view.1) ∷ views
changed_at (suc place) change (view ∷ views) = view ∷ changed_at place change views

-- ---- a move of one view

-- What a move sets in a view, and the turn that the view then takes.
pub record Move (C : Type 0) : Type 0 where
  pub sets : View C → View C
  pub turn : ViewState C → Turn

abbrev pub moved : {C : Type 0} → Move C → View C → View C
moved move view = after_turn (move.turn view.state) (move.sets view)

abbrev pub move_order : {C : Type 0} → ℕ → Move C → View C → Order
move_order place move view = turn_order place (move.turn view.state) (move.sets view)

abbrev pub moved_at : {C : Type 0} → ℕ → Move C → Tracked C → Tracked C
moved_at place move tracked = record tracked { views = changed_at place (moved move) tracked.views }

abbrev pub order_at : {C : Type 0} → ℕ → Move C → Tracked C → Option Order
order_at place move tracked = option_map (move_order place move) (view_at place tracked.views)

-- the move of the view of this name, if it is known
abbrev pub moved_by_name : {C : Type 0} → List ℕ → Move C → Tracked C → Tracked C
moved_by_name name move tracked = option_map_or (λ place. moved_at place move tracked) (place_of name tracked.views) tracked

abbrev pub order_by_name : {C : Type 0} → List ℕ → Move C → Tracked C → Option Order
order_by_name name move tracked = option_and_then (λ place. order_at place move tracked) (place_of name tracked.views)

-- ---- the moves

abbrev pub load_move : {C : Type 0} → Bool → Ask → Move C
load_move paused ask = record { sets = λ view. record view { ask = ask }; turn = loaded paused }

abbrev pub layout_move : {C : Type 0} → ℕ → ℕ → Move C
layout_move width height = record { sets = λ view. record view { size = Some (width, height) }; turn = laid_out }

abbrev pub clear_move : {C : Type 0} → Move C
clear_move = record { sets = λ view. view; turn = cleared }

abbrev pub act_move : {C : Type 0} → Act → Move C
act_move act = record { sets = λ view. view; turn = acted act }

-- ---- loads

abbrev pub new_view : {C : Type 0} → Ask → View C
new_view ask = record { ask = ask; size = None; state = Cleared }

-- A view that is new can be loaded while there are fewer than the limit.
abbrev pub can_load : {C : Type 0} → List ℕ → Tracked C → Bool
can_load name tracked = is_known name tracked.views || nat_lt (length tracked.views) views_limit

-- the views with this one, which comes last where it is new
abbrev pub with_view : {C : Type 0} → List ℕ → Ask → Tracked C → Tracked C
with_view name ask tracked =
    record tracked { views = if is_known name tracked.views then tracked.views else tracked.views ++ (name, new_view ask) ∷ [] }

abbrev pub after_load : {C : Type 0} → List ℕ → Ask → Tracked C → Tracked C
after_load name ask tracked = moved_by_name name (load_move tracked.paused ask) (with_view name ask tracked)

abbrev pub load_order : {C : Type 0} → List ℕ → Ask → Tracked C → Option Order
load_order name ask tracked = order_by_name name (load_move tracked.paused ask) (with_view name ask tracked)

-- ---- the end of a load

abbrev pub collected_at : {C : Type 0} → ℕ → Option C → Tracked C → Tracked C
collected_at place failed tracked =
    record tracked { views = changed_at place (λ view. record view { state = collected failed view.state }) tracked.views }

-- ---- orders

-- An order is for a view that is there, and that runs where it is to begin.
pub record IsOrderIn {C : Type 0} (tracked : Tracked C) (order : Order) : Type 0 where
  pub within : order.place < length tracked.views
  pub runs : IsTrue order.begin → state_at order.place tracked.views ≡ Some Running
