-- What the views hold by place, and what they show.
use Rattle.std.proofs.Common.{◌≡◌, ℕ, ◌<◌, List, [], ◌∷◌, length, map, zero, suc, Some, None, Option, slice_get, refl, ap, subst, ◌∙◌, arith}
use Rattle.load_cause.specs.declared.causes.Cause.{Cause}
use Rattle.request_tracker.specs.declared.views.ViewState.{ViewState}
use Rattle.request_tracker.specs.declared.views.ViewState.TheVariants.{Complete}
use Rattle.request_tracker.specs.Moves.{state_at}
use Rattle.engine_shared.specs.Tokens.{HoldValue}
use Rattle.engine_shared.specs.Caller.{Caller}
use Rattle.script_walk.specs.Walk.{Begin, Outcome, Stage, WalkView}
use Rattle.script_walk.specs.Tracked.{tracked_view}
use Rattle.engine_views.specs.Held.{Held, Holds}
use Rattle.engine_views.specs.Following.{IsHoldAt, AreHolds, Follows, IsShown, standing}

-- ---- by place

-- what is held at the place of a view
pub hold_of_view : (c : Caller) (outcome : Outcome) (place : ℕ) (vs : List WalkView) (holds : Holds) (v : WalkView) (hold : Option HoldValue) → AreHolds c outcome vs holds → slice_get vs place ≡ Some v → slice_get holds place ≡ Some hold
    → IsHoldAt c outcome v.view.state v.last hold
hold_of_view c outcome place [] holds v hold is view_is hold_is = cc
hold_of_view c outcome place (w ∷ vs) [] v hold is view_is hold_is = absurd is
hold_of_view c outcome zero (w ∷ vs) (h ∷ holds) v hold is view_is hold_is =
    let same : w ≡ v = cc in
    let held : h ≡ hold = cc in
    subst (λ (x : WalkView). IsHoldAt c outcome x.view.state x.last hold) same (subst (IsHoldAt c outcome w.view.state w.last) held is.0)
hold_of_view c outcome (suc place) (w ∷ vs) (h ∷ holds) v hold is view_is hold_is = hold_of_view c outcome place vs holds v hold is.1 view_is hold_is

pub as_many : (c : Caller) (outcome : Outcome) (vs : List WalkView) (holds : Holds) → AreHolds c outcome vs holds → length holds ≡ length vs
as_many c outcome [] [] is = refl
as_many c outcome [] (h ∷ holds) is = absurd is
as_many c outcome (v ∷ vs) [] is = absurd is
as_many c outcome (v ∷ vs) (h ∷ holds) is = omega (arith, as_many c outcome vs holds is.1)

pub item_at : {X : Type 0} (xs : List X) (place : ℕ) → place < length xs → (x : X) × (slice_get xs place ≡ Some x)
item_at [] place less = absurd (omega (arith, less))
item_at (x ∷ xs) zero less = (x, refl)
item_at (x ∷ xs) (suc place) less = item_at xs place (omega (arith, less))

pub state_of_view : (place : ℕ) (vs : List WalkView) (v : WalkView) → slice_get vs place ≡ Some v → state_at place (map tracked_view vs) ≡ Some v.view.state
state_of_view place [] v is = cc
state_of_view zero (w ∷ vs) v is = let same : w ≡ v = cc in ap (λ (x : WalkView). Some x.view.state) same
state_of_view (suc place) (w ∷ vs) v is = state_of_view place vs v is

-- ---- what is shown

shown_by : (c : Caller) (outcome : Outcome) (v : WalkView) (last : Option Begin) (load : HoldValue) → v.last ≡ last → v.view.state ≡ Complete → IsHoldAt c outcome Complete last (Some load) → IsShown c outcome v load
shown_by c outcome v None load last_is complete is = absurd is
shown_by c outcome v (Some begin) load last_is complete is = record { complete = complete; begin = begin; last = last_is; number = is.0.number; shows = is.1 }

pub shown_of : (c : Caller) (outcome : Outcome) (v : WalkView) (load : HoldValue) → v.view.state ≡ Complete → IsHoldAt c outcome v.view.state v.last (Some load) → IsShown c outcome v load
shown_of c outcome v load complete is = shown_by c outcome v v.last load refl complete (subst (λ t. IsHoldAt c outcome t v.last (Some load)) complete is)

none_held : (c : Caller) (outcome : Outcome) (last : Option Begin) → IsHoldAt c outcome Complete last None → ⊥
none_held c outcome None is = is
none_held c outcome (Some begin) is = is

-- a complete view holds a load
pub some_held : (c : Caller) (outcome : Outcome) (v : WalkView) → v.view.state ≡ Complete → IsHoldAt c outcome v.view.state v.last None → ⊥
some_held c outcome v complete is = none_held c outcome v.last (subst (λ t. IsHoldAt c outcome t v.last None) complete is)

-- the state of a view, as the tracker tells it
pub told : (c : Caller) (outcome : Outcome) (s : Stage) (held : Held) (place : ℕ) (v : WalkView) (state : ViewState Cause) → Follows outcome s (standing c held) → slice_get s.views place ≡ Some v → Some state ≡ state_at place held.tracked.views → v.view.state ≡ state
told c outcome s held place v state follows view_is state_is =
    let at : state_at place held.tracked.views ≡ Some v.view.state = ap (λ (t : Rattle.request_tracker.specs.Moves.Tracked Cause). state_at place t.views) follows.tracked_is ∙ state_of_view place s.views v view_is in
    let both : Some state ≡ Some v.view.state = state_is ∙ at in
    cc
