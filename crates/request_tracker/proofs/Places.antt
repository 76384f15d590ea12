-- Views by place, as the calls of the map give them.
use Rattle.std.proofs.Common.{◌≡◌, ℕ, ◌+◌, ◌≤◌, ◌<◌, Bool, true, false, cond, List, [], ◌∷◌, ◌++◌, length, map, zero, suc, None, Some, Option, Ok, Err, Result, IfOk, OnOk, refl, sym, ap, subst, ◌∙◌, arith, add-zero, not, inl, inr}
use Rattle.std.specs.Prelude.{position, slice_get, nat_lt}
use Rattle.std.specs.List.{position_or_len}
use Rattle.std.specs.Map.{values_of}
use Rattle.std.specs.Option.{is_some, option_map, option_map_or, option_and_then, unwrap_or}
use Rattle.std.specs.Str.{bytes_eq}
use Rattle.std.proofs.lemmas.Bool.{cases_lt, ltb-true, lt-ltb, eq-eqb}
use Rattle.std.proofs.lemmas.List.{map-append, length-append, length-map}
use Rattle.std.proofs.lemmas.List.Folds.{position_or_len_push}
use Rattle.std.proofs.lemmas.List.Sums.{prefix_len-le-length}
use Rattle.std.proofs.lemmas.Option.{none-some, slice_get-map}
use Rattle.std.proofs.lemmas.Slice.Eq.{bytes_eq-Decides}
use Rattle.indexmap.specs.IndexMap.{insert_entry}
use Rattle.indexmap.specs.Layout.{set_value_at}
use Rattle.request_tracker.specs.declared.views.Ask.{Ask}
use Rattle.request_tracker.specs.declared.views.Order.{Order}
use Rattle.request_tracker.specs.declared.views.View.{View}
use Rattle.request_tracker.specs.declared.views.ViewState.{ViewState}
use Rattle.request_tracker.specs.declared.turns.Turn.{Turn}
use Rattle.request_tracker.specs.declared.turns.Turn.TheVariants.{Stays, Begins, Pauses, Clears}
use Rattle.request_tracker.specs.Table.{loaded, begins, turned, after_turn, turn_order}
use Rattle.request_tracker.specs.declared.views.ViewState.TheVariants.{Cleared, Waiting, Running}
use Rattle.request_tracker.specs.Moves.{Views, Tracked, names, place_of, is_known, view_at, changed_at, Move, moved, move_order, moved_at, order_at, moved_by_name, order_by_name, load_move, new_view, with_view, after_load, load_order, state_at, IsOrderIn}

-- a place that is not found is the length
no_place : (p : List ℕ → Bool) (ns : List (List ℕ)) → position p ns ≡ None → position_or_len p ns ≡ length ns
no_place p ns none =
    let least = position_or_len p ns in
    elim (cases_lt least (length ns)) [
      | inl lt ↦ absurd (none-some _ (sym (sym (ap (λ t. cond t (Some least) None) (lt-ltb _ _ lt)) ∙ none)))
      | inr le ↦ omega (arith, prefix_len-le-length (λ x. not (p x)) ns)
    ]

-- a name that none has comes last
place-pushed : (name : List ℕ) (ns : List (List ℕ)) → position (bytes_eq name) ns ≡ None → position (bytes_eq name) (ns ++ name ∷ []) ≡ Some (length ns)
place-pushed name ns none =
    let p = bytes_eq name in
    let least = position_or_len p ns in
    let same : p name ≡ true = (bytes_eq-Decides name name).1 refl in
    let pushed : position_or_len p (ns ++ name ∷ []) ≡ length ns =
    position_or_len_push p ns name ∙ ap (λ t. cond t (length ns + cond (p name) 0 1) least) (eq-eqb _ _ (no_place p ns none)) ∙ ap (λ t. length ns + cond t 0 1) same ∙ add-zero (length ns) in
    let within : nat_lt (position_or_len p (ns ++ name ∷ [])) (length (ns ++ name ∷ [])) ≡ true =
    lt-ltb _ _ (omega (arith, pushed, length-append ns (name ∷ []))) in
    ap (λ t. cond t (Some (position_or_len p (ns ++ name ∷ []))) None) within ∙ ap Some pushed

-- two facts of one success
pub both_ok : {T E Q : Type 0} {P R : T → Type 0} (r : Result T E) → ((x : T) → P x → Q → R x) → IfOk r P → OnOk r Q → IfOk r R
both_ok (Ok x) f p q = f x p q
both_ok (Err e) f p q = tt

module _ {C : Type 0} where
  -- a value that is set at a place is a change of the view there
  set-changed : (views : Views C) (place : ℕ) (view : View C) (change : View C → View C) → slice_get (values_of views) place ≡ Some view
      → set_value_at views place (change view) ≡ changed_at place change views
  set-changed [] place view change e = refl
  set-changed (v ∷ vs) zero view change e = ap (λ o. (v.0, change (unwrap_or o view)) ∷ vs) (sym e)
  set-changed (v ∷ vs) (suc place) view change e = ap (λ l. v ∷ l) (set-changed vs place view change e)

  -- the views of a tracker after such a change
  pub changed-is : (now : Tracked C) (views : Views C) (paused : Bool) (place : ℕ) (view new : View C) (change : View C → View C)
      → (let opened : Tracked C = record { views = views; paused = paused } in opened ≡ now) → slice_get (values_of views) place ≡ Some view → new ≡ change view
      → (let closed : Tracked C = record { views = set_value_at views place new; paused = paused } in closed ≡ record now { views = changed_at place change now.views })
  changed-is now views paused place view new change e at is =
      let entries = ap (set_value_at views place) is ∙ set-changed views place view change at ∙ ap (λ (t : Tracked C). changed_at place change t.views) e in
      λ i. record { views = entries i; paused = (e i).paused }

  -- the view at a place, of a map's values
  pub view-is : (now : Tracked C) (views : Views C) (paused : Bool) (place : ℕ) (view : View C)
      → (let opened : Tracked C = record { views = views; paused = paused } in opened ≡ now) → slice_get (values_of views) place ≡ Some view → view_at place now.views ≡ Some view
  view-is now views paused place view e at = sym (ap (λ (t : Tracked C). view_at place t.views) e) ∙ sym (slice_get-map (λ v. v.1) views place) ∙ at

  -- the order of a move of it
  pub order-is : (now : Tracked C) (place : ℕ) (move : Move C) (view : View C) (order : Order) → view_at place now.views ≡ Some view → order ≡ move_order place move view
      → Some order ≡ order_at place move now
  order-is now place move view order at is = ap Some is ∙ sym (ap (option_map (move_order place move)) at)

  -- ---- by name

  pub order-by_name : (now : Tracked C) (name : List ℕ) (place : ℕ) (move : Move C) (order : Option Order) → place_of name now.views ≡ Some place → order ≡ order_at place move now
      → order ≡ order_by_name name move now
  order-by_name now name place move order found is = is ∙ sym (ap (option_and_then (λ (at : ℕ). order_at at move now)) found)

  pub views-by_name : (now new : Tracked C) (name : List ℕ) (place : ℕ) (move : Move C) → place_of name now.views ≡ Some place → new ≡ moved_at place move now
      → new ≡ moved_by_name name move now
  views-by_name now new name place move found is = is ∙ sym (ap (λ o. option_map_or (λ (at : ℕ). moved_at at move now) o now) found)

  -- ---- a load of a view that is known

  known-stays : (now : Tracked C) (name : List ℕ) (place : ℕ) (ask : Ask) → place_of name now.views ≡ Some place → with_view name ask now ≡ now
  known-stays now name place ask found =
      ap (λ o. let t : Tracked C = record now { views = cond (is_some o) now.views (now.views ++ (name, new_view ask) ∷ []) } in t) found

  pub known-order : (now : Tracked C) (name : List ℕ) (place : ℕ) (ask : Ask) (order : Option Order) → place_of name now.views ≡ Some place → order ≡ order_at place (load_move now.paused ask) now
      → order ≡ load_order name ask now
  known-order now name place ask order found is =
      order-by_name now name place (load_move now.paused ask) order found is ∙ sym (ap (order_by_name name (load_move now.paused ask)) (known-stays now name place ask found))

  pub known-views : (now new : Tracked C) (name : List ℕ) (place : ℕ) (ask : Ask) → place_of name now.views ≡ Some place → new ≡ moved_at place (load_move now.paused ask) now
      → new ≡ after_load name ask now
  known-views now new name place ask found is =
      views-by_name now new name place (load_move now.paused ask) found is ∙ sym (ap (moved_by_name name (load_move now.paused ask)) (known-stays now name place ask found))

  -- ---- a load of a view that is new

  place-new : (name : List ℕ) (views : Views C) (view : View C) → place_of name views ≡ None → place_of name (views ++ (name, view) ∷ []) ≡ Some (length views)
  place-new name views view none =
      ap (position (bytes_eq name)) (map-append (λ (v : List ℕ × View C). v.0) views ((name, view) ∷ [])) ∙ place-pushed name (names views) none ∙ ap Some (length-map views (λ (v : List ℕ × View C). v.0))

  view-last : (name : List ℕ) (views : Views C) (view : View C) → view_at (length views) (views ++ (name, view) ∷ []) ≡ Some view
  view-last name [] view = refl
  view-last name (v ∷ vs) view = view-last name vs view

  changed-last : (name : List ℕ) (views : Views C) (view : View C) (change : View C → View C) → changed_at (length views) change (views ++ (name, view) ∷ []) ≡ views ++ (name, change view) ∷ []
  changed-last name [] view change = refl
  changed-last name (v ∷ vs) view change = ap (λ l. v ∷ l) (changed-last name vs view change)

  new-added : (now : Tracked C) (name : List ℕ) (ask : Ask) → place_of name now.views ≡ None
      → (let added : Tracked C = record now { views = now.views ++ (name, new_view ask) ∷ [] } in with_view name ask now ≡ added)
  new-added now name ask none =
      ap (λ o. let t : Tracked C = record now { views = cond (is_some o) now.views (now.views ++ (name, new_view ask) ∷ []) } in t) none

  pub new-order : (now : Tracked C) (name : List ℕ) (ask : Ask) (turn : Turn) (order : Order) → place_of name now.views ≡ None → turn ≡ loaded {C = C} now.paused Cleared
      → order ≡ turn_order {C = C} (length now.views) turn (new_view ask) → Some order ≡ load_order name ask now
  new-order now name ask turn order none turns is =
      let move : Move C = load_move now.paused ask in
      let added : Tracked C = record now { views = now.views ++ (name, new_view ask) ∷ [] } in
      order-by_name added name (length now.views) move (Some order) (place-new name now.views (new_view ask) none)
      (order-is added (length now.views) move (new_view ask) order (view-last name now.views (new_view ask)) (is ∙ ap (λ t. turn_order {C = C} (length now.views) t (new_view ask)) turns))
      ∙ sym (ap (order_by_name name move) (new-added now name ask none))

  pub new-views : (now new : Tracked C) (name : List ℕ) (ask : Ask) (turn : Turn) → place_of name now.views ≡ None → turn ≡ loaded {C = C} now.paused Cleared
      → (let loaded_one : Tracked C = record now { views = now.views ++ (name, after_turn turn (new_view ask)) ∷ [] } in new ≡ loaded_one) → new ≡ after_load name ask now
  new-views now new name ask turn none turns is =
      let move : Move C = load_move now.paused ask in
      let added : Tracked C = record now { views = now.views ++ (name, new_view ask) ∷ [] } in
      let with : Views C → Tracked C = λ views. record now { views = views } in
      views-by_name added new name (length now.views) move (place-new name now.views (new_view ask) none)
      (is ∙ ap (λ t. with (now.views ++ (name, after_turn t (new_view ask)) ∷ [])) turns ∙ sym (ap with (changed-last name now.views (new_view ask) (moved move))))
      ∙ sym (ap (moved_by_name name move) (new-added now name ask none))

  -- the place of a name, as a map finds it
  pub found-is : (now : Tracked C) (views : Views C) (paused : Bool) (name : List ℕ) (place : ℕ)
      → (let opened : Tracked C = record { views = views; paused = paused } in opened ≡ now) → Some place ≡ place_of name views → place_of name now.views ≡ Some place
  found-is now views paused name place e found = sym (ap (λ (t : Tracked C). place_of name t.views) e) ∙ sym found

  -- ---- a view that is inserted

  inserted-by : (name : List ℕ) (v : List ℕ × View C) (vs : Views C) (view : View C) (t : Bool) (least : ℕ) → cond (not t) (1 + least) 0 ≡ length (names vs) + 1
      → (least ≡ length (names vs) → insert_entry bytes_eq vs name view ≡ vs ++ (name, view) ∷ [])
      → cond t ((v.0, view) ∷ vs) (v ∷ insert_entry bytes_eq vs name view) ≡ v ∷ vs ++ (name, view) ∷ []
  inserted-by name v vs view true least e rest = absurd (omega arith)
  inserted-by name v vs view false least e rest = ap (λ l. v ∷ l) (rest (omega arith))

  inserted : (name : List ℕ) (views : Views C) (view : View C) → position_or_len (bytes_eq name) (names views) ≡ length (names views) → insert_entry bytes_eq views name view ≡ views ++ (name, view) ∷ []
  inserted name [] view e = refl
  inserted name (v ∷ vs) view e =
      let least = position_or_len (bytes_eq name) (names vs) in
      let more : cond (not (bytes_eq name v.0)) (1 + least) 0 ≡ length (names vs) + 1 = e ∙ omega arith in
      inserted-by name v vs view (bytes_eq name v.0) least more (inserted name vs view)

  -- the views of a tracker after one that is new was inserted
  pub added-is : (now : Tracked C) (views new : Views C) (paused : Bool) (name key : List ℕ) (view value : View C)
      → (let opened : Tracked C = record { views = views; paused = paused } in opened ≡ now) → place_of name now.views ≡ None → new ≡ insert_entry bytes_eq views key value → key ≡ name → value ≡ view
      → (let closed : Tracked C = record { views = new; paused = paused } in closed ≡ record now { views = now.views ++ (name, view) ∷ [] })
  added-is now views new paused name key view value e none is same_name same_view =
      let entries = is ∙ ap (λ k. insert_entry bytes_eq views k value) same_name ∙ ap (insert_entry bytes_eq views name) same_view ∙ ap (λ (t : Tracked C). insert_entry bytes_eq t.views name view) e
      ∙ inserted name now.views view (no_place (bytes_eq name) (names now.views) none) in
      λ i. record { views = entries i; paused = (e i).paused }

  -- the turn of a load
  pub load-turn : (now : Tracked C) (views : Views C) (paused : Bool) (turn : Turn) (state : ViewState C)
      → (let opened : Tracked C = record { views = views; paused = paused } in opened ≡ now) → turn ≡ loaded paused state → turn ≡ loaded now.paused state
  load-turn now views paused turn state e is = is ∙ ap (λ (t : Tracked C). loaded t.paused state) e

  -- a name that a map does not find
  pub missing-is : (now : Tracked C) (views : Views C) (paused : Bool) (name : List ℕ)
      → (let opened : Tracked C = record { views = views; paused = paused } in opened ≡ now) → None ≡ place_of name views → place_of name now.views ≡ None
  missing-is now views paused name e missed = sym (ap (λ (t : Tracked C). place_of name t.views) e) ∙ sym missed

  -- ---- orders

  length-changed : (views : Views C) (place : ℕ) (change : View C → View C) → length (changed_at place change views) ≡ length views
  length-changed [] place change = refl
  length-changed (v ∷ vs) zero change = refl
  length-changed (v ∷ vs) (suc place) change = ap suc (length-changed vs place change)

  -- a change of one view leaves their number
  pub count-changed : (now new : Tracked C) (place : ℕ) (change : View C → View C) → (let changed : Tracked C = record now { views = changed_at place change now.views } in new ≡ changed) → length new.views ≡ length now.views
  count-changed now new place change is = ap (λ (t : Tracked C). length t.views) is ∙ length-changed now.views place change

  view-changed : (views : Views C) (place : ℕ) (change : View C → View C) (view : View C) → view_at place views ≡ Some view → view_at place (changed_at place change views) ≡ Some (change view)
  view-changed [] place change view at = absurd (none-some view at)
  view-changed (v ∷ vs) zero change view at = ap (option_map change) at
  view-changed (v ∷ vs) (suc place) change view at = view-changed vs place change view at

  view-within : (views : Views C) (place : ℕ) (view : View C) → view_at place views ≡ Some view → place < length views
  view-within [] place view at = absurd (none-some view at)
  view-within (v ∷ vs) zero view at = omega arith
  view-within (v ∷ vs) (suc place) view at = let less = view-within vs place view at in omega arith

  begun-runs : (turn : Turn) (view : View C) → begins turn view ≡ true → turned turn view ≡ Running
  begun-runs Stays view e = cc
  begun-runs Begins view e = ap (λ (b : Bool). let state : ViewState C = cond b Running Waiting in state) e
  begun-runs Pauses view e = cc
  begun-runs Clears view e = cc

  -- the order of a move is for the view that was moved
  pub order-in : (now new : Tracked C) (place : ℕ) (move : Move C) (view : View C) (order : Order) → view_at place now.views ≡ Some view → order ≡ move_order place move view → new ≡ moved_at place move now → IsOrderIn new order
  order-in now new place move view order at is moves =
      let after = view-changed now.views place (moved move) view at in
      let there : view_at place new.views ≡ Some (moved move view) = ap (λ (t : Tracked C). view_at place t.views) moves ∙ after in
      let place_is : order.place ≡ place = ap (λ (o : Order). o.place) is in
      record {
        within = subst (λ p. p < length new.views) (sym place_is) (view-within new.views place (moved move view) there);
        runs = λ begun. let begins_is : begins (move.turn view.state) (move.sets view) ≡ true = sym (ap (λ (o : Order). o.begin) is) ∙ begun in
            ap (λ p. state_at p new.views) place_is ∙ ap (option_map (λ (v : View C). v.state)) there ∙ ap Some (begun-runs (move.turn view.state) (move.sets view) begins_is);
      }

  -- the order of a load of a new view is for that view
  pub new-in : (now new : Tracked C) (name : List ℕ) (ask : Ask) (turn : Turn) (order : Order) → turn ≡ loaded {C = C} now.paused Cleared → order ≡ turn_order {C = C} (length now.views) turn (new_view ask)
      → (let loaded_one : Tracked C = record now { views = now.views ++ (name, after_turn turn (new_view ask)) ∷ [] } in new ≡ loaded_one) → IsOrderIn new order
  new-in now new name ask turn order turns is added =
      let move : Move C = load_move now.paused ask in
      let before : Tracked C = record now { views = now.views ++ (name, new_view ask) ∷ [] } in
      let with : Views C → Tracked C = λ views. record now { views = views } in
      order-in before new (length now.views) move (new_view ask) order (view-last name now.views (new_view ask)) (is ∙ ap (λ t. turn_order {C = C} (length now.views) t (new_view ask)) turns)
      (added ∙ ap (λ t. with (now.views ++ (name, after_turn t (new_view ask)) ∷ [])) turns ∙ sym (ap with (changed-last name now.views (new_view ask) (moved move))))
