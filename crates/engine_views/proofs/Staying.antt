-- What views hold stays so through a call that releases none of it.
use Rattle.std.proofs.Common.{◌≡◌, ℕ, ◌≤◌, List, [], ◌∷◌, length, set, zero, suc, Some, None, Option, Result, refl, ap, sym, ◌∙◌, arith}
use Rattle.std.specs.Prelude.{⊤, slice_get}
use Rattle.finite_maps.specs.MapLaws.{same_Some}
use Rattle.bitmap_kind.specs.Picture.{Picture}
use Rattle.cache_key.specs.declared.load_spec.LoadSpec.{LoadSpec}
use Rattle.load_cause.specs.declared.causes.Cause.{Cause}
use Rattle.load_table.specs.Loads.{LoadName}
use Rattle.request_tracker.specs.Limits.{views_limit}
use Rattle.request_tracker.specs.declared.views.ViewState.{ViewState}
use Rattle.request_tracker.specs.declared.views.ViewState.TheVariants.{Cleared, Waiting, Running, Complete, Failed, Paused}
use Rattle.engine_world.specs.declared.events.Event.TheVariants as events
use Rattle.engine_world.specs.declared.events.NotedReply.{NotedReply}
use Rattle.engine_shared.specs.Tokens.{HoldValue}
use Rattle.engine_shared.specs.Caller.{Caller, picture_held, IsCall, HasLoad, HasReadyLoad}
use Rattle.script_walk.specs.Walk.{Begin, WalkView, Outcome}
use Rattle.engine_views.specs.Held.{Holds, Held, loads_in}
use Rattle.engine_views.specs.Owner.{AllLoads, IsNone}
use Rattle.engine_views.specs.Following.{Shows, IsHoldAt, AreHolds}
use Rattle.engine_views.specs.inside.ViewLaws.{ViewLaws}

-- ---- loads

pub record Stays (old new : Caller) (load : HoldValue) : Type 0 where
  pub has : HasLoad old load → HasLoad new load
  pub ready : HasReadyLoad old load → HasReadyLoad new load × (picture_held new load.number ≡ picture_held old load.number)

abbrev pub AllStay : Caller → Caller → List HoldValue → Type 0
AllStay old new [] = ⊤
AllStay old new (load ∷ loads) = Stays old new load × AllStay old new loads

pub all_loads_stay : (old new : Caller) (loads : List HoldValue) → AllStay old new loads → AllLoads old loads → AllLoads new loads
all_loads_stay old new [] stay is = tt
all_loads_stay old new (load ∷ loads) stay is = (stay.0.has is.0, all_loads_stay old new loads stay.1 is.1)

module _ (laws : ViewLaws) where
  -- through the release of another load
  pub release_leaves : (old new : Caller) (n : ℕ) (reply : NotedReply) (loads : List HoldValue) → IsCall old (events.Release n) reply new → IsNone n loads → AllStay old new loads
  release_leaves old new n reply [] call none = tt
  release_leaves old new n reply (load ∷ loads) call none =
      let number : LoadName → ℕ = λ name. name.1 in
      let not : (old.who, load.number) ≡ (old.who, n) → ⊥ = λ is. none.0 (ap number is) in (
        record { has = λ h. laws.stay old new (events.Release n) reply load h call not; ready = λ h. laws.stay_ready old new (events.Release n) reply load h call not },
        release_leaves old new n reply loads call none.1,
      )

  -- through a load
  pub load_leaves : (old new : Caller) (spec : LoadSpec) (reply : NotedReply) (loads : List HoldValue) → IsCall old (events.Load spec) reply new → AllStay old new loads
  load_leaves old new spec reply [] call = tt
  load_leaves old new spec reply (load ∷ loads) call = (
    record { has = λ h. laws.stay old new (events.Load spec) reply load h call (λ is. is); ready = λ h. laws.stay_ready old new (events.Load spec) reply load h call (λ is. is) },
    load_leaves old new spec reply loads call,
  )

-- ---- views

shows_stay : (old new : Caller) (load : HoldValue) (result : Result Picture Cause) → Stays old new load → Shows old load result → Shows new load result
shows_stay old new load result stay is =
    let now = stay.ready is.ready in
    let same : now.0.picture ≡ is.ready.picture = same_Some _ _ (sym now.0.shows ∙ now.1 ∙ is.ready.shows) in
    record { ready = now.0; is = cc }

hold_stays : (old new : Caller) (outcome : Outcome) (state : ViewState Cause) (last : Option Begin) (load : HoldValue) → Stays old new load → IsHoldAt old outcome state last (Some load) → IsHoldAt new outcome state last (Some load)
hold_stays old new outcome Cleared last load stay is = is
hold_stays old new outcome Waiting last load stay is = is
hold_stays old new outcome Running None load stay is = absurd is
hold_stays old new outcome Running (Some begin) load stay is = (is.0, stay.has is.1)
hold_stays old new outcome Complete None load stay is = absurd is
hold_stays old new outcome Complete (Some begin) load stay is = (is.0, shows_stay old new load (outcome begin) stay is.1)
hold_stays old new outcome (Failed cause) last load stay is = is
hold_stays old new outcome Paused last load stay is = is

none_stays : (old new : Caller) (outcome : Outcome) (state : ViewState Cause) (last : Option Begin) → IsHoldAt old outcome state last None → IsHoldAt new outcome state last None
none_stays old new outcome Cleared last is = refl
none_stays old new outcome Waiting last is = refl
none_stays old new outcome Running None is = absurd is
none_stays old new outcome Running (Some begin) is = absurd is
none_stays old new outcome Complete None is = absurd is
none_stays old new outcome Complete (Some begin) is = absurd is
none_stays old new outcome (Failed cause) last is = refl
none_stays old new outcome Paused last is = refl

pub holds_stay : (old new : Caller) (outcome : Outcome) (vs : List WalkView) (hs : Holds) → AllStay old new (loads_in hs) → AreHolds old outcome vs hs → AreHolds new outcome vs hs
holds_stay old new outcome [] [] stay is = tt
holds_stay old new outcome [] (h ∷ hs) stay is = absurd is
holds_stay old new outcome (v ∷ vs) [] stay is = absurd is
holds_stay old new outcome (v ∷ vs) (None ∷ hs) stay is = (none_stays old new outcome v.view.state v.last is.0, holds_stay old new outcome vs hs stay is.1)
holds_stay old new outcome (v ∷ vs) (Some load ∷ hs) stay is = (hold_stays old new outcome v.view.state v.last load stay.0 is.0, holds_stay old new outcome vs hs stay.1 is.1)

-- ---- one place

pub record HoldAt (c : Caller) (outcome : Outcome) (v : WalkView) (hs : Holds) (place : ℕ) : Type 0 where
  pub hold : Option HoldValue
  pub there : slice_get hs place ≡ Some hold
  pub is : IsHoldAt c outcome v.view.state v.last hold

pub hold_at : (c : Caller) (outcome : Outcome) (vs : List WalkView) (hs : Holds) (place : ℕ) (v : WalkView) → AreHolds c outcome vs hs → slice_get vs place ≡ Some v → HoldAt c outcome v hs place
hold_at c outcome [] hs place v is e = cc
hold_at c outcome (w ∷ vs) [] place v is e = absurd is
hold_at c outcome (w ∷ vs) (h ∷ hs) zero v is e =
    let same : w ≡ v = same_Some _ _ e in
    record { hold = h; there = refl; is = rw (← same) is.0 }
hold_at c outcome (w ∷ vs) (h ∷ hs) (suc place) v is e =
    let rest = hold_at c outcome vs hs place v is.1 e in
    record { hold = rest.hold; there = rest.there; is = rest.is }

-- there are as many views as holds
pub same_length : (c : Caller) (outcome : Outcome) (vs : List WalkView) (hs : Holds) → AreHolds c outcome vs hs → length vs ≡ length hs
same_length c outcome [] [] is = refl
same_length c outcome [] (h ∷ hs) is = absurd is
same_length c outcome (v ∷ vs) [] is = absurd is
same_length c outcome (v ∷ vs) (h ∷ hs) is = ap suc (same_length c outcome vs hs is.1)

-- and as few as there may be
pub within_limit : (c : Caller) (outcome : Outcome) (vs : List WalkView) (inside old : Held) → length inside.holds ≤ views_limit → inside ≡ old → AreHolds c outcome vs old.holds → length vs ≤ views_limit
within_limit c outcome vs inside old within is holds = omega (arith, within, ap (λ (h : Held). length h.holds) is, same_length c outcome vs old.holds holds)

pub holds_set : (c : Caller) (outcome : Outcome) (vs : List WalkView) (hs : Holds) (place : ℕ) (v : WalkView) (h : Option HoldValue) → AreHolds c outcome vs hs → IsHoldAt c outcome v.view.state v.last h → AreHolds c outcome (set vs place v) (set hs place h)
holds_set c outcome [] [] place v h is at = tt
holds_set c outcome [] (x ∷ hs) place v h is at = absurd is
holds_set c outcome (w ∷ vs) [] place v h is at = absurd is
holds_set c outcome (w ∷ vs) (x ∷ hs) zero v h is at = (at, is.1)
holds_set c outcome (w ∷ vs) (x ∷ hs) (suc place) v h is at = (is.0, holds_set c outcome vs hs place v h is.1 at)

pub set_there : {A : Type 0} (xs : List A) (place : ℕ) (x : A) → slice_get xs place ≡ Some x → set xs place x ≡ xs
set_there [] place x e = refl
set_there (y ∷ xs) zero x e = ap (λ z. z ∷ xs) (same_Some _ _ (sym e))
set_there (y ∷ xs) (suc place) x e = ap (λ l. y ∷ l) (set_there xs place x e)

pub get_set : {A : Type 0} (xs : List A) (place : ℕ) (was x : A) → slice_get xs place ≡ Some was → slice_get (set xs place x) place ≡ Some x
get_set [] place was x e = cc
get_set (y ∷ xs) zero was x e = refl
get_set (y ∷ xs) (suc place) was x e = get_set xs place was x e
