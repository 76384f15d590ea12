-- Orders of the tracker with what they ask for, as the walk's views give them.
use Rattle.std.proofs.Common.{◌≡◌, ℕ, ◌+◌, ◌<◌, false, cond, if◌then◌else◌, List, [], ◌∷◌, ◌++◌, length, map, take, zero, suc, Some, None, Option, refl, ap, sym, subst, ◌∙◌, arith, add-zero, add-one}
use Rattle.std.specs.Prelude.{slice_get, IsSome}
use Rattle.std.specs.Option.{option_map, option_map_or, option_and_then}
use Rattle.finite_maps.specs.MapLaws.{same_Some}
use Rattle.cache_key.specs.declared.load_spec.LoadSpec.{LoadSpec}
use Rattle.load_cause.specs.declared.causes.Cause.{Cause}
use Rattle.request_tracker.specs.declared.turns.Turn.{Turn}
use Rattle.request_tracker.specs.declared.turns.Turn.TheVariants.{Stays, Begins, Pauses, Clears}
use Rattle.request_tracker.specs.declared.views.Order.{Order}
use Rattle.request_tracker.specs.declared.views.View.{View}
use Rattle.request_tracker.specs.Table.{has_hold, drops, begins, request}
use Rattle.request_tracker.specs.Moves.{Views, Tracked, Move, moved, move_order, view_at, changed_at, place_of, order_at, moved_at, order_by_name, moved_by_name}
use Rattle.script_walk.specs.Walk.{WalkView, Outcome, Stage}
use Rattle.script_walk.specs.Tracked.{tracked, tracked_view}
use Rattle.engine_views.specs.Following.{Standing}
use Rattle.engine_views.specs.inside.Orders.{asked_by, IsFreeFor, turned_by, orders_from, Stands, KeepsStates}
use Rattle.engine_views.specs.declared.turned.Turned.{Turned}
use Rattle.engine_views.proofs.Staying.{hold_at}
use Rattle.engine_views.proofs.Orders.{none_held}

-- ---- views by place

-- the view that an order is of
pub record OrderedView (p place : ℕ) (move : Move Cause) (order : Order) (views : Views Cause) : Type 0 where
  pub view : List ℕ × View Cause
  pub there : slice_get views place ≡ Some view
  pub is : order ≡ move_order p move view.1

pub ordered_view : (p place : ℕ) (move : Move Cause) (order : Order) (views : Views Cause) → Some order ≡ option_map (move_order p move) (view_at place views) → OrderedView p place move order views
ordered_view p place move order [] e = cc
ordered_view p zero move order (v ∷ vs) e = record { view = v; there = refl; is = same_Some _ _ e }
ordered_view p (suc place) move order (v ∷ vs) e =
    let rest = ordered_view p place move order vs e in
    record { view = rest.view; there = rest.there; is = rest.is }

pub view_changed : (place : ℕ) (change : View Cause → View Cause) (views : Views Cause) (view : List ℕ × View Cause) → slice_get views place ≡ Some view → view_at place (changed_at place change views) ≡ Some (change view.1)
view_changed place change [] view e = cc
view_changed zero change (v ∷ vs) view e = ap (λ (x : List ℕ × View Cause). Some (change x.1)) (same_Some _ _ e)
view_changed (suc place) change (v ∷ vs) view e = view_changed place change vs view e

-- an order with what it asks for, where its view is known
pub turned_is : (turned : Turned) (order : Order) (place : ℕ) (move : Move Cause) (view : View Cause) (t : Tracked Cause) → turned.order ≡ order → turned.spec ≡ asked_by order t → order ≡ move_order place move view
    → view_at place t.views ≡ Some (moved move view) → turned ≡ turned_by place move view
turned_is turned order place move view t order_is spec_is ordered there =
    let first : turned.order ≡ (turned_by place move view).order = order_is ∙ ordered in
    let second : turned.spec ≡ (turned_by place move view).spec =
    spec_is ∙ ap (λ o. asked_by o t) ordered ∙ ap (λ o. cond (begins (move.turn view.state) (move.sets view)) (option_map request o) None) there in
    λ i. record { order = first i; spec = second i }

-- the walk's view there
pub record WalkViewAt (views : List WalkView) (place : ℕ) (view : View Cause) : Type 0 where
  pub v : WalkView
  pub there : slice_get views place ≡ Some v
  pub is : v.view ≡ view

pub walk_view_at : (views : List WalkView) (place : ℕ) (view : List ℕ × View Cause) → slice_get (map tracked_view views) place ≡ Some view → WalkViewAt views place view.1
walk_view_at [] place view e = cc
walk_view_at (v ∷ vs) zero view e = record { v = v; there = refl; is = ap (λ (x : List ℕ × View Cause). x.1) (same_Some _ _ e) }
walk_view_at (v ∷ vs) (suc place) view e =
    let rest = walk_view_at vs place view e in
    record { v = rest.v; there = rest.there; is = rest.is }

-- ---- the view of a name

pub record IsTurnOf (name : List ℕ) (move : Move Cause) (s : Stage) (turned : Turned) : Type 0 where
  pub place : ℕ
  pub place_is : place_of name (tracked s).views ≡ Some place
  pub v : WalkView
  pub there : slice_get s.views place ≡ Some v
  pub is : turned ≡ turned_by place move v.view

at_place : (name : List ℕ) (move : Move Cause) (s : Stage) (turned : Turned) (order : Order) (now : Tracked Cause) (place : Option ℕ) → place_of name (tracked s).views ≡ place
    → Some order ≡ option_and_then (λ at. order_at at move (tracked s)) place → now ≡ option_map_or (λ at. moved_at at move (tracked s)) place (tracked s)
    → turned.order ≡ order → turned.spec ≡ asked_by order now → IsTurnOf name move s turned
at_place name move s turned order now None found ordered now_is order_is spec_is = cc
at_place name move s turned order now (Some place) found ordered now_is order_is spec_is =
    let one = ordered_view place place move order (tracked s).views ordered in
    let at = walk_view_at s.views place one.view one.there in
    let changed : view_at place now.views ≡ Some (moved move one.view.1) = ap (λ (t : Tracked Cause). view_at place t.views) now_is ∙ view_changed place (moved move) (tracked s).views one.view one.there in
    record {
      place = place;
      place_is = found;
      v = at.v;
      there = at.there;
      is = turned_is turned order place move one.view.1 now order_is spec_is one.is changed ∙ ap (turned_by place move) (sym at.is);
    }

pub turn_of : (name : List ℕ) (move : Move Cause) (s : Stage) (turned : Turned) (order : Order) (now : Tracked Cause)
    → Some order ≡ order_by_name name move (tracked s) → now ≡ moved_by_name name move (tracked s) → turned.order ≡ order → turned.spec ≡ asked_by order now → IsTurnOf name move s turned
turn_of name move s turned order now ordered now_is order_is spec_is =
    at_place name move s turned order now (place_of name (tracked s).views) refl ordered now_is order_is spec_is

-- ---- the views of which so many made the move

abbrev pub moved_to : ℕ → Move Cause → Views Cause → Views Cause
moved_to zero move views = views
moved_to (suc count) move [] = []
moved_to (suc count) move (v ∷ vs) = (v.0, moved move v.1) ∷ moved_to count move vs

pub beyond_moved : (count : ℕ) (move : Move Cause) (views : Views Cause) → view_at count (moved_to count move views) ≡ view_at count views
beyond_moved zero move views = refl
beyond_moved (suc count) move [] = refl
beyond_moved (suc count) move (v ∷ vs) = beyond_moved count move vs

next_moved : (count : ℕ) (move : Move Cause) (views : Views Cause) → changed_at count (moved move) (moved_to count move views) ≡ moved_to (suc count) move views
next_moved zero move [] = refl
next_moved zero move (v ∷ vs) = refl
next_moved (suc count) move [] = refl
next_moved (suc count) move (v ∷ vs) = ap (λ l. (v.0, moved move v.1) ∷ l) (next_moved count move vs)

pub moved_next : (count : ℕ) (move : Move Cause) (views : Views Cause) → changed_at count (moved move) (moved_to count move views) ≡ moved_to (count + 1) move views
moved_next count move views = next_moved count move views ∙ ap (λ n. moved_to n move views) (sym (add-one count))

moved_view : (count : ℕ) (move : Move Cause) (views : Views Cause) (view : List ℕ × View Cause) → slice_get views count ≡ Some view → view_at count (moved_to (suc count) move views) ≡ Some (moved move view.1)
moved_view count move [] view e = cc
moved_view zero move (v ∷ vs) view e = ap (λ (x : List ℕ × View Cause). Some (moved move x.1)) (same_Some _ _ e)
moved_view (suc count) move (v ∷ vs) view e = moved_view count move vs view e

pub view_moved : (count : ℕ) (move : Move Cause) (views : Views Cause) (view : List ℕ × View Cause) → slice_get views count ≡ Some view → view_at count (moved_to (count + 1) move views) ≡ Some (moved move view.1)
view_moved count move views view e = ap (λ n. view_at count (moved_to n move views)) (add-one count) ∙ moved_view count move views view e

pub all_moved : (move : Move Cause) (views : Views Cause) → moved_to (length views) move views ≡ map (λ view. (view.0, moved move view.1)) views
all_moved move [] = refl
all_moved move (v ∷ vs) = ap (λ l. (v.0, moved move v.1) ∷ l) (all_moved move vs)

pub length_moved : (count : ℕ) (move : Move Cause) (views : Views Cause) → length (moved_to count move views) ≡ length views
length_moved zero move views = refl
length_moved (suc count) move [] = refl
length_moved (suc count) move (v ∷ vs) = ap suc (length_moved count move vs)

-- ---- all orders

pub length_orders : (p : ℕ) (move : Move Cause) (views : Views Cause) → length (orders_from p move views) ≡ length views
length_orders p move [] = refl
length_orders p move (v ∷ vs) = ap suc (length_orders (suc p) move vs)

pub order_there : (p place : ℕ) (move : Move Cause) (views : Views Cause) (view : List ℕ × View Cause) → slice_get views place ≡ Some view → slice_get (orders_from p move views) place ≡ Some (turned_by (p + place) move view.1)
order_there p place move [] view e = cc
order_there p zero move (v ∷ vs) view e =
    ap (λ (x : List ℕ × View Cause). Some (turned_by p move x.1)) (same_Some _ _ e) ∙ ap (λ n. Some (turned_by n move view.1)) (sym (add-zero p))
order_there p (suc place) move (v ∷ vs) view e =
    let same : suc p + place ≡ p + suc place = omega arith in
    order_there (suc p) place move vs view e ∙ ap (λ n. Some (turned_by n move view.1)) same

pub record IsTurnAt (place : ℕ) (move : Move Cause) (s : Stage) (turned : Turned) : Type 0 where
  pub v : WalkView
  pub there : slice_get s.views place ≡ Some v
  pub is : turned ≡ turned_by place move v.view

some_view : (views : List WalkView) (place : ℕ) → place < length views → (v : WalkView) × (slice_get views place ≡ Some v)
some_view [] place less = absurd (omega (arith, less))
some_view (v ∷ vs) zero less = (v, refl)
some_view (v ∷ vs) (suc place) less = some_view vs place (omega (arith, less))

there_mapped : (views : List WalkView) (place : ℕ) (v : WalkView) → slice_get views place ≡ Some v → slice_get (map tracked_view views) place ≡ Some (tracked_view v)
there_mapped [] place v e = cc
there_mapped (w ∷ vs) zero v e = ap (λ (x : WalkView). Some (tracked_view x)) (same_Some _ _ e)
there_mapped (w ∷ vs) (suc place) v e = there_mapped vs place v e

pub turn_at : (place : ℕ) (move : Move Cause) (s : Stage) (turned : Turned) → place < length s.views → slice_get (orders_from 0 move (tracked s).views) place ≡ Some turned → IsTurnAt place move s turned
turn_at place move s turned less e =
    let at = some_view s.views place less in
    let there : slice_get (orders_from 0 move (tracked s).views) place ≡ Some (turned_by (0 + place) move at.0.view) =
    order_there 0 place move (tracked s).views (tracked_view at.0) (there_mapped s.views place at.0 at.1) in
    let same : 0 + place ≡ place = omega arith in
    record { v = at.0; there = at.1; is = same_Some _ _ (sym e ∙ there ∙ ap (λ n. Some (turned_by n move at.0.view)) same) }

next_taken : {A : Type 0} (xs : List A) (k : ℕ) (x : A) → slice_get xs k ≡ Some x → take (suc k) xs ≡ take k xs ++ x ∷ []
next_taken [] k x e = cc
next_taken (y ∷ xs) zero x e = ap (λ z. z ∷ []) (same_Some _ _ e)
next_taken (y ∷ xs) (suc k) x e = ap (λ l. y ∷ l) (next_taken xs k x e)

pub take_next : {A : Type 0} (xs : List A) (k : ℕ) (x : A) → slice_get xs k ≡ Some x → take (k + 1) xs ≡ take k xs ++ x ∷ []
take_next xs k x e = ap (λ n. take n xs) (add-one k) ∙ next_taken xs k x e

pub take_whole : {A : Type 0} (xs : List A) → take (length xs) xs ≡ xs
take_whole [] = refl
take_whole (x ∷ xs) = ap (λ l. x ∷ l) (take_whole xs)

-- ---- a load that is to begin finds nothing held

free_turn : (turn : Turn) (old asks : View Cause) (spec : LoadSpec) → asks.state ≡ old.state → IsSome (if begins turn asks then Some spec else None) → drops turn asks.state ≡ false → has_hold old.state ≡ false
free_turn Stays old asks spec same begin keep = cc
free_turn Begins old asks spec same begin keep = ap has_hold (sym same) ∙ keep
free_turn Pauses old asks spec same begin keep = cc
free_turn Clears old asks spec same begin keep = cc

pub free_for : (outcome : Outcome) (s : Stage) (place : ℕ) (move : Move Cause) (v : WalkView) (turned : Turned) (at : Standing) → KeepsStates move → Stands outcome s at → slice_get s.views place ≡ Some v
    → turned ≡ turned_by place move v.view → IsFreeFor turned at.held.holds
free_for outcome s place move v turned at keeps stands there is =
    let hold = hold_at at.caller outcome s.views at.held.holds place v stands.holds there in
    subst (λ (t : Turned). IsFreeFor t at.held.holds) (sym is) (λ begin keep.
    hold.there ∙ ap Some (none_held at.caller outcome v.view.state v.last hold.hold hold.is
    (free_turn (move.turn v.view.state) v.view (move.sets v.view) (request (moved move v.view)) (keeps v.view) begin keep)))
