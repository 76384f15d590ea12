-- Worked moves, on which the table itself is computed where the tests are proved. A cause is a number here. This project's own.
use Rattle.std.specs.Prelude.{◌≡◌, ℕ, Bool, true, false, List, [], ◌∷◌, codes, zero, suc, Some, None}
use Rattle.std.specs.declared.option.Option.{Option}
use Rattle.cache_key.specs.Room.{empty_spec}
use Rattle.cache_key.specs.Worked.{red_key}
use Rattle.cache_key.specs.declared.load_spec.LoadSpec.{LoadSpec}
use Rattle.request_tracker.specs.declared.views.Ask.{Ask}
use Rattle.request_tracker.specs.declared.views.View.{View}
use Rattle.request_tracker.specs.declared.views.ViewState.{ViewState}
use Rattle.request_tracker.specs.Table.{collected}
use Rattle.request_tracker.specs.Moves.{Views, Tracked, no_views, Move, moved, move_order, new_view, after_load}
use Rattle.cache_key.specs.Size.{Size}

-- a load of the picture `red`, which is wanted at 2 by 1 pixels, or at no size
abbrev pub red : LoadSpec
red = record empty_spec { key = red_key }

abbrev pub red_sized : Ask
red_sized = record { spec = red; sized = true }

abbrev pub red_unsized : Ask
red_unsized = record { spec = record red { key = record red_key { width = 1; height = 1 } }; sized = false }

-- views that ask for it, with no layout and after one
abbrev pub with_size : ViewState ℕ → View ℕ
with_size state = record { ask = red_sized; size = None; state = state }

abbrev pub without_size : ViewState ℕ → View ℕ
without_size state = record { ask = red_unsized; size = None; state = state }

abbrev pub after_layout : ℕ → ℕ → ViewState ℕ → View ℕ
after_layout width height state = record { ask = red_unsized; size = Some (width, height); state = state }

-- At place 3 the move makes this of a view, and orders so.
pub record Makes (move : Move ℕ) (before after : View ℕ) (drop_hold begin : Bool) : Type 0 where
  pub view_is : moved move before ≡ after
  pub order_is : move_order 3 move before ≡ record { place = 3; drop_hold = drop_hold; begin = begin }

-- the end of a load, which failed with this cause or came to its picture
abbrev pub after_end : Option ℕ → ViewState ℕ → ViewState ℕ
after_end failed state = collected failed state

-- so many views
abbrev pub views_up_to : ℕ → Views ℕ
views_up_to zero = []
views_up_to (suc n) = (n ∷ [], new_view red_sized) ∷ views_up_to n

abbrev pub tracked_up_to : ℕ → Tracked ℕ
tracked_up_to n = record { views = views_up_to n; paused = false }

-- loads in the views `a`, `b` and once more in `a`
abbrev pub three_loads : Tracked ℕ
three_loads = after_load (codes "a") red_unsized (after_load (codes "b") red_sized (after_load (codes "a") red_sized no_views))
