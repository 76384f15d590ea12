-- The gather of a walk, view by view, and what it leaves of the walk's views.
use Rattle.std.proofs.Common.{◌≡◌, ◌≢◌, ℕ, ◌+◌, ◌-◌, if◌then◌else◌, List, [], ◌∷◌, ◌++◌, length, map, zero, suc, Some, None, Ok, Err, Option, Result, IfSome, ◌⊎◌, inl, inr, slice_get, set, option_map, refl, ap, sym, subst, ◌∙◌, arith, append_assoc, append-nil}
use Rattle.std.specs.Result.{result_err}
use Rattle.std.proofs.lemmas.Bool.{eq-eqb, ne_eqb}
use Rattle.bitmap_kind.specs.Picture.{Picture}
use Rattle.load_cause.specs.declared.causes.Cause.{Cause}
use Rattle.request_tracker.specs.declared.views.Ask.{Ask}
use Rattle.request_tracker.specs.declared.views.View.{View}
use Rattle.request_tracker.specs.declared.views.ViewState.{ViewState}
use Rattle.request_tracker.specs.declared.views.ViewState.TheVariants.{Cleared, Waiting, Running, Complete, Failed, Paused}
use Rattle.request_tracker.specs.Table as table
use Rattle.request_tracker.specs.Moves.{changed_at}
use Rattle.engine_shared.specs.Caller.{Caller}
use Rattle.script_walk.specs.Walk.{Begin, WalkView, Outcome, TraceEvent, Dropped, Begun, Ended, Trimmed, Printed, running, running_in, ended, gathered, gathered_view, end_events, view_ends, gather_events, names_of}
use Rattle.script_walk.specs.Tracked.{tracked_view}
use Rattle.script_walk.specs.Laws.{EachEnd}
use Rattle.fetch_bounds.specs.Parts.{begins_after}
use Rattle.engine_views.specs.Following.{IsLastBegin, AreLastBegins}
use Rattle.engine_views.specs.Gathers.{CameAfter, AgreeBefore}
use Rattle.engine_views.specs.inside.Collects.{result_in, outcome_now, gathered_to, events_to}

-- ---- what begins come to

pub agrees_before : (gathers : ℕ) (c : Caller) (outcome : Outcome) → AgreeBefore gathers outcome (outcome_now gathers c outcome)
agrees_before gathers c outcome begin less =
    let apart : begin.gathers ≢ gathers = λ e. omega (arith, less, e) in
    ap (λ t. if t then result_in c (begin.number - 1) else outcome begin) (ne_eqb begin.gathers gathers apart)

-- a begin that ran came to what the engine has of its load
pub came_to : (gathers : ℕ) (c : Caller) (outcome : Outcome) (begin : Begin) (n : ℕ) → begin.gathers ≡ gathers → begin.number ≡ n + 1 → outcome_now gathers c outcome begin ≡ result_in c n
came_to gathers c outcome begin n same number =
    let less : begin.number - 1 ≡ n = omega (arith, number) in
    ap (λ t. if t then result_in c (begin.number - 1) else outcome begin) (eq-eqb begin.gathers gathers same) ∙ ap (result_in c) less

-- ---- places

module _ (next : Outcome) where
  pub view_at_place : (place : ℕ) (vs : List WalkView) → slice_get (gathered_to place next vs) place ≡ slice_get vs place
  view_at_place zero vs = refl
  view_at_place (suc place) [] = refl
  view_at_place (suc place) (v ∷ vs) = view_at_place place vs

  pub length-gathered_to : (place : ℕ) (vs : List WalkView) → length (gathered_to place next vs) ≡ length vs
  length-gathered_to zero vs = refl
  length-gathered_to (suc place) [] = refl
  length-gathered_to (suc place) (v ∷ vs) = omega (arith, length-gathered_to place vs)

  -- a view that does not run stays
  stays : (v : WalkView) → running v ≡ None → gathered_view next v ≡ v
  stays v none i = record v { view = ended (option_map next (none i)) v.view }

  pub idle_views : (place : ℕ) (vs : List WalkView) (v : WalkView) → slice_get vs place ≡ Some v → running v ≡ None → gathered_to (suc place) next vs ≡ gathered_to place next vs
  idle_views place [] v at none = cc
  idle_views zero (w ∷ vs) v at none = let same : v ≡ w = cc in ap (λ x. x ∷ vs) (stays w (subst (λ (x : WalkView). running x ≡ None) same none))
  idle_views (suc place) (w ∷ vs) v at none = ap (λ l. gathered_view next w ∷ l) (idle_views place vs v at none)

  -- what happens up to the next place
  pub more_events : (place : ℕ) (vs : List WalkView) (v : WalkView) → slice_get vs place ≡ Some v → events_to (suc place) next vs ≡ events_to place next vs ++ view_ends next (running v)
  more_events place [] v at = cc
  more_events zero (w ∷ vs) v at = let same : w ≡ v = cc in append-nil (view_ends next (running w)) ∙ ap (λ (x : WalkView). view_ends next (running x)) same
  more_events (suc place) (w ∷ vs) v at =
      ap (λ l. view_ends next (running w) ++ l) (more_events place vs v at) ∙ sym (append_assoc (view_ends next (running w)) (events_to place next vs) (view_ends next (running v)))

  -- the tracker's views, where the load of the next one came to its end
  ended_view : (v : WalkView) (begin : Begin) (failed : Option Cause) → running v ≡ Some begin → failed ≡ result_err (next begin)
      → ◌≡◌ {A = List ℕ × View Cause} (v.name, record v.view { state = table.collected failed v.view.state }) (tracked_view (gathered_view next v))
  ended_view v begin failed runs is =
      (λ i. (v.name, record v.view { state = table.collected (is i) v.view.state })) ∙ (λ i. (v.name, ended (option_map next (sym runs i)) v.view))

  pub more_tracked : (place : ℕ) (vs : List WalkView) (v : WalkView) (begin : Begin) (failed : Option Cause) → slice_get vs place ≡ Some v → running v ≡ Some begin → failed ≡ result_err (next begin)
      → changed_at place (λ (view : View Cause). record view { state = table.collected failed view.state }) (map tracked_view (gathered_to place next vs)) ≡ map tracked_view (gathered_to (suc place) next vs)
  more_tracked place [] v begin failed at runs is = cc
  more_tracked zero (w ∷ vs) v begin failed at runs is =
      let same : v ≡ w = cc in ap (λ x. x ∷ map tracked_view vs) (ended_view w begin failed (subst (λ (x : WalkView). running x ≡ Some begin) same runs) is)
  more_tracked (suc place) (w ∷ vs) v begin failed at runs is = ap (λ l. tracked_view (gathered_view next w) ∷ l) (more_tracked place vs v begin failed at runs is)

  -- the state of a view that ran
  pub ended_state : (v : WalkView) (begin : Begin) (result : Result Picture Cause) → v.view.state ≡ Running → v.last ≡ Some begin → next begin ≡ result → (gathered_view next v).view.state ≡ table.collected (result_err result) Running
  ended_state v begin result runs last is =
      let on : running v ≡ Some begin = λ i. running_in (runs i) (last i) in
      (λ i. (ended (option_map next (on i)) v.view).state) ∙ (λ i. table.collected (result_err (is i)) (runs i))

  -- ---- all of them

  pub all_views : (vs : List WalkView) → gathered_to (length vs) next vs ≡ gathered next vs
  all_views [] = refl
  all_views (v ∷ vs) = ap (λ l. gathered_view next v ∷ l) (all_views vs)

  pub all_events : (vs : List WalkView) → events_to (length vs) next vs ≡ gather_events next vs
  all_events [] = refl
  all_events (v ∷ vs) = ap (λ l. view_ends next (running v) ++ l) (all_events vs)

  pub gathered_names : (vs : List WalkView) → names_of (gathered next vs) ≡ names_of vs
  gathered_names [] = refl
  gathered_names (v ∷ vs) = ap (λ l. v.name ∷ l) (gathered_names vs)

  -- ---- no view begins

  ends_begin_none : (begun : List Begin) (begin : Begin) (result : Result Picture Cause) (events : List TraceEvent) → begins_after begun (end_events begin result ++ events) ≡ begins_after begun events
  ends_begin_none begun begin (Ok picture) events = refl
  ends_begin_none begun begin (Err cause) events = refl

  view_begins_none : (begun : List Begin) (begin : Option Begin) (events : List TraceEvent) → begins_after begun (view_ends next begin ++ events) ≡ begins_after begun events
  view_begins_none begun None events = refl
  view_begins_none begun (Some begin) events = ends_begin_none begun begin (next begin) events

  pub none_begin : (begun : List Begin) (place : ℕ) (vs : List WalkView) → begins_after begun (events_to place next vs) ≡ begun
  none_begin begun zero vs = refl
  none_begin begun (suc place) [] = refl
  none_begin begun (suc place) (v ∷ vs) = view_begins_none begun (running v) (events_to place next vs) ∙ none_begin begun place vs

-- ---- last begins

pub last_at : (gathers place : ℕ) (vs : List WalkView) (v : WalkView) → AreLastBegins gathers vs → slice_get vs place ≡ Some v → IfSome v.last (IsLastBegin gathers v)
last_at gathers place [] v begins at = cc
last_at gathers zero (w ∷ vs) v begins at = let same : w ≡ v = cc in subst (λ (x : WalkView). IfSome x.last (IsLastBegin gathers x)) same begins.0
last_at gathers (suc place) (w ∷ vs) v begins at = last_at gathers place vs v begins.1 at

pub each_append : (P : Begin → Result Picture Cause → Type 0) (xs ys : List TraceEvent) → EachEnd P xs → EachEnd P ys → EachEnd P (xs ++ ys)
each_append P [] ys p q = q
each_append P (Ended begin result ∷ xs) ys p q = (p.0, each_append P xs ys p.1 q)
each_append P (Dropped begin ∷ xs) ys p q = each_append P xs ys p q
each_append P (Begun begin others ∷ xs) ys p q = each_append P xs ys p q
each_append P (Trimmed level ∷ xs) ys p q = each_append P xs ys p q
each_append P (Printed line ∷ xs) ys p q = each_append P xs ys p q

module _ (next : Outcome) (gathers : ℕ) where
  later_last : (name : List ℕ) (old new : View Cause) (last : Option Begin) → (new.state ≡ Running → ⊥) → (new.state ≡ Complete → (old.state ≡ Running) ⊎ (old.state ≡ Complete))
      → IfSome last (IsLastBegin gathers (record { name = name; view = old; last = last })) → IfSome last (IsLastBegin (gathers + 1) (record { name = name; view = new; last = last }))
  later_last name old new None runs shows is = tt
  later_last name old new (Some begin) runs shows is = record {
    view_is = is.view_is;
    running = λ e. absurd (runs e);
    complete = λ e. elim (shows e) [
      | inl ran ↦ omega (arith, is.running ran)
      | inr stood ↦ omega (arith, is.complete stood)
    ];
  }

  came_end : (begin : Begin) (result : Result Picture Cause) → begin.gathers ≡ gathers → EachEnd (CameAfter gathers) (end_events begin result)
  came_end begin (Ok picture) is = (is, tt)
  came_end begin (Err cause) is = (is, tt)

  -- the last begin of a view that ran, by what this came to
  ran_last : (name : List ℕ) (view : View Cause) (begin : Begin) (result : Result Picture Cause) → view.state ≡ Running → IsLastBegin gathers (record { name = name; view = view; last = Some begin }) begin
      → (let new : View Cause = record view { state = table.collected (result_err result) Running } in IsLastBegin (gathers + 1) (record { name = name; view = new; last = Some begin }) begin)
  ran_last name view begin (Ok picture) runs is = later_last name view (record view { state = Complete }) (Some begin) (λ e. cc) (λ e. inl runs) is
  ran_last name view begin (Err cause) runs is = later_last name view (record view { state = Failed cause }) (Some begin) (λ e. cc) (λ e. cc) is

  record IsLater (v : WalkView) : Type 0 where
    last : IfSome v.last (IsLastBegin (gathers + 1) (gathered_view next v))
    came : EachEnd (CameAfter gathers) (view_ends next (running v))

  later : (name : List ℕ) (ask : Ask) (size : Option (ℕ × ℕ)) (state : ViewState Cause) (last : Option Begin)
      → (let v : WalkView = record { name = name; view = record { ask = ask; size = size; state = state }; last = last } in IfSome last (IsLastBegin gathers v) → IsLater v)
  later name ask size Cleared last is = let view : View Cause = record { ask = ask; size = size; state = Cleared } in record { last = later_last name view view last (λ e. cc) (λ e. cc) is; came = tt }
  later name ask size Waiting last is = let view : View Cause = record { ask = ask; size = size; state = Waiting } in record { last = later_last name view view last (λ e. cc) (λ e. cc) is; came = tt }
  later name ask size Paused last is = let view : View Cause = record { ask = ask; size = size; state = Paused } in record { last = later_last name view view last (λ e. cc) (λ e. cc) is; came = tt }
  later name ask size (Failed cause) last is = let view : View Cause = record { ask = ask; size = size; state = Failed cause } in record { last = later_last name view view last (λ e. cc) (λ e. cc) is; came = tt }
  later name ask size Complete last is = let view : View Cause = record { ask = ask; size = size; state = Complete } in record { last = later_last name view view last (λ e. cc) (λ e. inr refl) is; came = tt }
  later name ask size Running None is = record { last = tt; came = tt }
  later name ask size Running (Some begin) is =
      let view : View Cause = record { ask = ask; size = size; state = Running } in
      record { last = ran_last name view begin (next begin) refl is; came = came_end begin (next begin) (is.running refl) }

  pub all_later : (vs : List WalkView) → AreLastBegins gathers vs → AreLastBegins (gathers + 1) (gathered next vs) × EachEnd (CameAfter gathers) (gather_events next vs)
  all_later [] begins = (tt, tt)
  all_later (v ∷ vs) begins =
      let first = later v.name v.view.ask v.view.size v.view.state v.last begins.0 in
      let rest = all_later vs begins.1 in
      ((first.last, rest.0), each_append (CameAfter gathers) (view_ends next (running v)) (gather_events next vs) first.came rest.1)

-- ---- places of a list

pub set_same : {X : Type 0} (xs : List X) (place : ℕ) (x : X) → slice_get xs place ≡ Some x → set xs place x ≡ xs
set_same [] place x at = refl
set_same (y ∷ ys) zero x at = let same : x ≡ y = cc in ap (λ z. z ∷ ys) same
set_same (y ∷ ys) (suc place) x at = ap (λ l. y ∷ l) (set_same ys place x at)
