-- All views make a move, one after the other.
use Rattle.std.proofs.Common.{◌≡◌, ℕ, ◌+◌, ◌<◌, ◌≤◌, List, [], ◌∷◌, ◌++◌, length, zero, suc, Some, None, Option, refl, ap, sym, subst, ◌∙◌, arith, add-zero, add-one}
use Rattle.std.specs.Prelude.{slice_get}
use Rattle.std.specs.Option.{option_len}
use Rattle.std.proofs.lemmas.List.{append-nil, append_assoc}
use Rattle.std.proofs.lemmas.Option.{slice_get_within}
use Rattle.load_cause.specs.declared.causes.Cause.{Cause}
use Rattle.request_tracker.specs.Limits.{views_limit}
use Rattle.request_tracker.specs.Moves.{Move}
use Rattle.engine_world.specs.Permits.{load_limit}
use Rattle.engine_shared.specs.Caller.{knowledge_of}
use Rattle.script_walk.specs.Walk.{Begin, WalkView, Outcome, Stage, held, begin_by}
use Rattle.script_walk.specs.ByPlace.{move_at, step_at, steps_from}
use Rattle.engine_views.specs.Held.{loads_in}
use Rattle.engine_views.specs.Owner.{HasJust, MayLoad}
use Rattle.engine_views.specs.Following.{Standing}
use Rattle.engine_views.specs.inside.Orders.{IsFreeFor, Obeys, turned_by, Stands, KeepsStates, HasObeyedAll}
use Rattle.engine_views.specs.declared.turned.Turned.{Turned}
use Rattle.engine_views.specs.inside.ViewLaws.{ViewLaws}
use Rattle.engine_views.proofs.Told.{IsTold, told_none, told_join}
use Rattle.engine_views.proofs.Staying.{hold_at}
use Rattle.engine_views.proofs.Orders.{HasObeyed, obeys_at}
use Rattle.engine_views.proofs.Turning.{IsTurnAt, free_for}

module _ (move : Move Cause) where
  -- ---- one view more

  more_stage : (count place : ℕ) (s : Stage) → (steps_from (suc count) place move s).stage ≡ (step_at (place + count) move (steps_from count place move s).stage).stage
  more_stage zero place s = ap (λ at. (step_at at move s).stage) (sym (add-zero place))
  more_stage (suc count) place s =
      let next = (step_at place move s).stage in
      let e : suc place + count ≡ place + suc count = omega arith in
      more_stage count (suc place) next ∙ ap (λ at. (step_at at move (steps_from count (suc place) move next).stage).stage) e

  more_events : (count place : ℕ) (s : Stage) → (steps_from (suc count) place move s).events ≡ (steps_from count place move s).events ++ (step_at (place + count) move (steps_from count place move s).stage).events
  more_events zero place s = append-nil (step_at place move s).events ∙ ap (λ at. (step_at at move s).events) (sym (add-zero place))
  more_events (suc count) place s =
      let first = step_at place move s in
      let rest = steps_from count (suc place) move first.stage in
      let e : suc place + count ≡ place + suc count = omega arith in
      ap (λ l. first.events ++ l) (more_events count (suc place) first.stage ∙ ap (λ at. rest.events ++ (step_at at move rest.stage).events) e)
      ∙ sym (append_assoc first.events rest.events (step_at (place + suc count) move rest.stage).events)

  next_stage : (count : ℕ) (s : Stage) → (steps_from (count + 1) 0 move s).stage ≡ (step_at count move (steps_from count 0 move s).stage).stage
  next_stage count s =
      let e : 0 + count ≡ count = omega arith in
      ap (λ n. (steps_from n 0 move s).stage) (add-one count) ∙ more_stage count 0 s ∙ ap (λ at. (step_at at move (steps_from count 0 move s).stage).stage) e

  next_events : (count : ℕ) (s : Stage) → (steps_from (count + 1) 0 move s).events ≡ (steps_from count 0 move s).events ++ (step_at count move (steps_from count 0 move s).stage).events
  next_events count s =
      let e : 0 + count ≡ count = omega arith in
      ap (λ n. (steps_from n 0 move s).events) (add-one count) ∙ more_events count 0 s ∙ ap (λ at. (steps_from count 0 move s).events ++ (step_at at move (steps_from count 0 move s).stage).events) e

  -- ---- the views that have not made it yet

  at_beyond : (place at : ℕ) (s : Stage) (before : List Begin) (vs : List WalkView) → place < at → slice_get (move_at place move s before vs).views at ≡ slice_get vs at
  at_beyond place at s before [] less = refl
  at_beyond zero zero s before (v ∷ vs) less = absurd (omega (arith, less))
  at_beyond zero (suc at) s before (v ∷ vs) less = refl
  at_beyond (suc place) zero s before (v ∷ vs) less = refl
  at_beyond (suc place) (suc at) s before (v ∷ vs) less = at_beyond place at s (before ++ held v) vs (omega (arith, less))

  pub steps_beyond : (count place at : ℕ) (s : Stage) → place + count ≤ at → slice_get (steps_from count place move s).stage.views at ≡ slice_get s.views at
  steps_beyond zero place at s less = refl
  steps_beyond (suc count) place at s less = steps_beyond count (suc place) at (step_at place move s).stage (omega (arith, less)) ∙ at_beyond place at s [] s.views (omega (arith, less))

  -- ---- how many begin

  one_most : (o : Option Begin) → option_len o ≤ 1
  one_most None = omega arith
  one_most (Some begin) = omega arith

  pub begun_most : (place : ℕ) (s : Stage) (before : List Begin) (vs : List WalkView) → (move_at place move s before vs).begun ≤ s.begun + 1
  begun_most place s before [] = omega arith
  begun_most zero s before (v ∷ vs) = omega (arith, one_most (begin_by move (s.begun + 1) s.gathers v))
  begun_most (suc place) s before (v ∷ vs) = begun_most place s (before ++ held v) vs

  pub steps_most : (count place : ℕ) (s : Stage) → (steps_from count place move s).stage.begun ≤ s.begun + count
  steps_most zero place s = omega arith
  steps_most (suc count) place s = omega (arith, begun_most place s [] s.views, steps_most count (suc place) (step_at place move s).stage)

-- So many views made the move, from the first on, and so did their holds.
pub record HasObeyedTo (count : ℕ) (outcome : Outcome) (s : Stage) (move : Move Cause) (old new : Standing) : Type 0 where
  pub stands : Stands outcome (steps_from count 0 move s).stage new
  pub told : IsTold old.caller new.caller (steps_from count 0 move s).events

pub obeyed_none : (outcome : Outcome) (s : Stage) (move : Move Cause) (old : Standing) → Stands outcome s old → HasObeyedTo 0 outcome s move old old
obeyed_none outcome s move old stands = record { stands = stands; told = told_none old.caller }

pub obeyed_more : ViewLaws → (count : ℕ) (outcome : Outcome) (s : Stage) (move : Move Cause) (v : WalkView) (old mid new : Standing) → KeepsStates move → HasObeyedTo count outcome s move old mid → slice_get s.views count ≡ Some v
    → Obeys (turned_by count move v.view) mid new → HasJust new.caller (loads_in new.held.holds) → HasObeyedTo (count + 1) outcome s move old new
obeyed_more laws count outcome s move v old mid new keeps so_far there obeys just =
    let stage = (steps_from count 0 move s).stage in
    let here : slice_get stage.views count ≡ Some v = steps_beyond move count 0 count s (omega arith) ∙ there in
    let one : HasObeyed outcome count move stage mid new = obeys_at laws outcome count move stage v mid new keeps so_far.stands here obeys just in
    record {
      stands = subst (λ t. Stands outcome t new) (sym (next_stage move count s)) one.stands;
      told = subst (IsTold old.caller new.caller) (sym (next_events move count s)) (told_join laws old.caller mid.caller new.caller (steps_from count 0 move s).events (step_at count move stage).events so_far.told one.told);
    }

pub obeyed_all : (outcome : Outcome) (s : Stage) (move : Move Cause) (old new : Standing) → Stands outcome s old → HasObeyedTo (length s.views) outcome s move old new → HasObeyedAll outcome s move old new
obeyed_all outcome s move old new stands is = record {
  stands = is.stands;
  adds = is.told.adds;
  no_job = is.told.no_job;
  few = omega (arith, is.stands.begun, stands.begun, steps_most move (length s.views) 0 s);
}

-- ---- the next order can be obeyed

pub record CanObey (turned : Turned) (at : Standing) : Type 0 where
  pub place : turned.order.place < length at.held.holds
  pub just : HasJust at.caller (loads_in at.held.holds)
  pub few : (knowledge_of at.caller).begun < load_limit
  pub free : IsFreeFor turned at.held.holds

pub can_obey_next : (count : ℕ) (outcome : Outcome) (s : Stage) (move : Move Cause) (turned : Turned) (old mid : Standing) → KeepsStates move → Stands outcome s old → length s.views ≤ views_limit → MayLoad old.caller
    → HasObeyedTo count outcome s move old mid → IsTurnAt count move s turned → CanObey turned mid
can_obey_next count outcome s move turned old mid keeps stands within few so_far turn =
    let stage = (steps_from count 0 move s).stage in
    let here : slice_get stage.views count ≡ Some turn.v = steps_beyond move count 0 count s (omega arith) ∙ turn.there in
    let hold = hold_at mid.caller outcome stage.views mid.held.holds count turn.v so_far.stands.holds here in
    let inside : count < length mid.held.holds = slice_get_within mid.held.holds count hold.hold hold.there in
    let early : count < length s.views = slice_get_within s.views count turn.v turn.there in
    record {
      place = subst (λ (t : Turned). t.order.place < length mid.held.holds) (sym turn.is) inside;
      just = so_far.stands.just;
      few = omega (arith, few, early, within, so_far.stands.begun, stands.begun, steps_most move count 0 s);
      free = free_for outcome stage count move turn.v turned mid keeps so_far.stands here turn.is;
    }
