-- What an order does to the holds and to the engine, beside the walk's own move.
use Rattle.std.proofs.Common.{◌≡◌, ℕ, ◌+◌, Bool, true, false, cond, if◌then◌else◌, List, [], ◌∷◌, ◌++◌, set, zero, suc, Some, None, Option, IfSome, refl, ap, sym, subst, ◌∙◌, arith}
use Rattle.std.specs.Prelude.{slice_get}
use Rattle.std.specs.Option.{option_or, option_len}
use Rattle.std.proofs.lemmas.List.{set-set}
use Rattle.cache_key.specs.declared.load_spec.LoadSpec.{LoadSpec}
use Rattle.load_cause.specs.declared.causes.Cause.{Cause}
use Rattle.request_tracker.specs.declared.turns.Turn.{Turn}
use Rattle.request_tracker.specs.declared.turns.Turn.TheVariants.{Stays, Begins, Pauses, Clears}
use Rattle.request_tracker.specs.declared.views.View.{View}
use Rattle.request_tracker.specs.declared.views.ViewState.{ViewState}
use Rattle.request_tracker.specs.declared.views.ViewState.TheVariants.{Cleared, Waiting, Running, Complete, Failed, Paused}
use Rattle.request_tracker.specs.Table.{has_hold, has_size, drops, begins, request, after_turn}
use Rattle.request_tracker.specs.Moves.{Move}
use Rattle.engine_world.specs.declared.events.Event.TheVariants as events
use Rattle.engine_world.specs.declared.events.NotedReply.TheVariants as replies
use Rattle.engine_world.specs.Knowledge.{Knowledge}
use Rattle.engine_shared.specs.Tokens.{HoldValue}
use Rattle.engine_shared.specs.Caller.{Caller, knowledge_of, IsCall}
use Rattle.script_walk.specs.Walk.{Begin, WalkView, Outcome, Stage, held, all_held, begin_by, moved_view, drop_events, begin_events, move_events}
use Rattle.script_walk.specs.ByPlace.{move_at, step_at}
use Rattle.engine_views.specs.Held.{loads_in}
use Rattle.engine_views.specs.Owner.{AreApart, IsNone, IsOwner, HasJust}
use Rattle.engine_views.specs.Following.{Standing, IsBeginsLoad, IsHoldAt, AreHolds, IsLastBegin, AreLastBegins}
use Rattle.engine_views.specs.inside.Orders as orders
use Rattle.engine_views.specs.inside.Orders.{Released, LetsGo, HasBegun, Drops, Obeys, turned_by, Stands, KeepsStates}
use Rattle.engine_views.proofs.Around.{around, apart_from}
use Rattle.engine_views.specs.inside.ViewLaws.{ViewLaws}
use Rattle.engine_views.proofs.Told.{IsTold, told_none, told_join, told_release, told_load}
use Rattle.engine_views.proofs.Staying.{AllStay, release_leaves, load_leaves, holds_stay, hold_at, holds_set, set_there, get_set}
use Rattle.engine_views.proofs.Just.{counted}
use Rattle.engine_views.proofs.Owners.{owner_stays}

-- ---- what a view holds

-- a view that has a hold holds the load of its last begin
pub record IsHeld (last : Option Begin) (hold : Option HoldValue) : Type 0 where
  pub begin : Begin
  pub load : HoldValue
  pub last_is : last ≡ Some begin
  pub hold_is : hold ≡ Some load
  pub is : IsBeginsLoad begin load

pub held_of : (c : Caller) (outcome : Outcome) (state : ViewState Cause) (last : Option Begin) (hold : Option HoldValue) → IsHoldAt c outcome state last hold → has_hold state ≡ true → IsHeld last hold
held_of c outcome Cleared last hold is e = cc
held_of c outcome Waiting last hold is e = cc
held_of c outcome Running None hold is e = absurd is
held_of c outcome Running (Some begin) None is e = absurd is
held_of c outcome Running (Some begin) (Some load) is e = record { begin = begin; load = load; last_is = refl; hold_is = refl; is = is.0 }
held_of c outcome Complete None hold is e = absurd is
held_of c outcome Complete (Some begin) None is e = absurd is
held_of c outcome Complete (Some begin) (Some load) is e = record { begin = begin; load = load; last_is = refl; hold_is = refl; is = is.0 }
held_of c outcome (Failed cause) last hold is e = cc
held_of c outcome Paused last hold is e = cc

-- any other holds nothing
pub none_held : (c : Caller) (outcome : Outcome) (state : ViewState Cause) (last : Option Begin) (hold : Option HoldValue) → IsHoldAt c outcome state last hold → has_hold state ≡ false → hold ≡ None
none_held c outcome Cleared last hold is e = is
none_held c outcome Waiting last hold is e = is
none_held c outcome Running last hold is e = cc
none_held c outcome Complete last hold is e = cc
none_held c outcome (Failed cause) last hold is e = is
none_held c outcome Paused last hold is e = is

-- a view without its hold
abbrev cleared : WalkView → WalkView
cleared v = record v { view = record v.view { state = Cleared } }

-- ---- what is dropped

-- What the view at a place held was released, if it held anything.
pub record HasDropped (outcome : Outcome) (s : Stage) (place : ℕ) (v : WalkView) (dropped : Option Begin) (old new : Standing) : Type 0 where
  pub owner : IsOwner new.caller
  pub begun : (knowledge_of new.caller).begun ≡ s.begun
  pub free : slice_get new.held.holds place ≡ Some None
  pub holds : AreHolds new.caller outcome (set s.views place (cleared v)) new.held.holds
  pub told : IsTold old.caller new.caller (drop_events dropped)

module _ (laws : ViewLaws) (outcome : Outcome) (s : Stage) (place : ℕ) (v : WalkView) (old : Standing) (stands : Stands outcome s old) (there : slice_get s.views place ≡ Some v) where
  drops_hold : (new : Standing) → has_hold v.view.state ≡ true → LetsGo place old new → HasDropped outcome s place v v.last old new
  drops_hold new has lets =
      let at = hold_at old.caller outcome s.views old.held.holds place v stands.holds there in
      let h : IsHeld v.last at.hold = held_of old.caller outcome v.view.state v.last at.hold at.is has in
      let load_there : slice_get old.held.holds place ≡ Some (Some h.load) = at.there ∙ ap Some h.hold_is in
      let which : lets.hold ≡ Some h.load = cc in
      let call : IsCall old.caller (events.Release h.load.number) replies.Done new.caller = subst (λ o. Released o old.caller new.caller) which lets.released in
      let near = around old.held.holds place (Some h.load) load_there in
      let apart : AreApart (near.before ++ h.load ∷ near.after) = subst AreApart near.is stands.just.apart in
      let none : IsNone h.load.number (loads_in (set old.held.holds place None)) = subst (IsNone h.load.number) (sym (near.set_is None)) (apart_from near.before near.after h.load apart) in
      let stay : AllStay old.caller new.caller (loads_in (set old.held.holds place None)) = release_leaves laws old.caller new.caller h.load.number replies.Done (loads_in (set old.held.holds place None)) call none in
      let kept : AreHolds old.caller outcome (set s.views place (cleared v)) (set old.held.holds place None) = holds_set old.caller outcome s.views old.held.holds place (cleared v) None stands.holds refl in
      let now = holds_stay old.caller new.caller outcome (set s.views place (cleared v)) (set old.held.holds place None) stay kept in
      record {
        owner = owner_stays laws.opening old.caller new.caller (events.Release h.load.number) replies.Done tt stands.just.owner call;
        begun = ap (λ (k : Knowledge). k.begun) call.knowledge ∙ stands.begun;
        free = ap (λ hs. slice_get hs place) lets.holds_are ∙ get_set old.held.holds place (Some h.load) None load_there;
        holds = subst (AreHolds new.caller outcome (set s.views place (cleared v))) (sym lets.holds_are) now;
        told = subst (λ o. IsTold old.caller new.caller (drop_events o)) (sym h.last_is) (told_release laws old.caller new.caller h.load.number replies.Done h.begin stands.just.owner call h.is.number);
      }

  drops_none : has_hold v.view.state ≡ false → HasDropped outcome s place v None old old
  drops_none has =
      let at = hold_at old.caller outcome s.views old.held.holds place v stands.holds there in
      let free : slice_get old.held.holds place ≡ Some None = at.there ∙ ap Some (none_held old.caller outcome v.view.state v.last at.hold at.is has) in
      let kept : AreHolds old.caller outcome (set s.views place (cleared v)) (set old.held.holds place None) = holds_set old.caller outcome s.views old.held.holds place (cleared v) None stands.holds refl in
      record {
        owner = stands.just.owner;
        begun = stands.begun;
        free = free;
        holds = subst (AreHolds old.caller outcome (set s.views place (cleared v))) (set_there old.held.holds place None free) kept;
        told = told_none old.caller;
      }

  has_dropped : (b : Bool) (new : Standing) → has_hold v.view.state ≡ b → Drops b place old new → HasDropped outcome s place v (if b then v.last else None) old new
  has_dropped true new has is = drops_hold new has is
  has_dropped false new has is = subst (HasDropped outcome s place v None old) (sym is) (drops_none has)

-- ---- what begins

-- The view at a place took its turn.
pub record HasTurned (outcome : Outcome) (s : Stage) (place : ℕ) (v : WalkView) (dropped begin : Option Begin) (old new : Standing) : Type 0 where
  pub begun : (knowledge_of new.caller).begun ≡ s.begun + option_len begin
  pub holds : AreHolds new.caller outcome (set s.views place v) new.held.holds
  pub told : (others : List Begin) → IsTold old.caller new.caller (drop_events dropped ++ begin_events begin others)

module _ (laws : ViewLaws) (outcome : Outcome) (s : Stage) (place : ℕ) (v w : WalkView) (dropped : Option Begin) (old between : Standing) (drop : HasDropped outcome s place v dropped old between) where
  -- nothing begins, and the view holds nothing
  turns_empty : (new : Standing) → new ≡ between → IsHoldAt between.caller outcome w.view.state w.last None → HasTurned outcome s place w dropped None old new
  turns_empty new same none =
      let at : AreHolds between.caller outcome (set (set s.views place (cleared v)) place w) (set between.held.holds place None) = holds_set between.caller outcome (set s.views place (cleared v)) between.held.holds place w None drop.holds none in
      subst (HasTurned outcome s place w dropped None old) (sym same) (record {
        begun = omega (arith, drop.begun);
        holds = subst (λ hs. AreHolds between.caller outcome (set s.views place w) hs) (set_there between.held.holds place None drop.free)
            (subst (λ vs. AreHolds between.caller outcome vs (set between.held.holds place None)) (set-set s.views place (cleared v) w) at);
        told = λ others. told_join laws old.caller between.caller between.caller (drop_events dropped) [] drop.told (told_none between.caller);
      })

  -- its load begins
  turns_begun : (spec : LoadSpec) (begin : Begin) (new : Standing) → HasBegun place spec between new → w.view.state ≡ Running → w.last ≡ Some begin → begin.number ≡ s.begun + 1 → begin.spec ≡ spec → HasTurned outcome s place w dropped (Some begin) old new
  turns_begun spec begin new is runs last number asked =
      let stay : AllStay between.caller new.caller (loads_in between.held.holds) = load_leaves laws between.caller new.caller spec is.reply (loads_in between.held.holds) is.call in
      let kept : AreHolds new.caller outcome (set s.views place (cleared v)) between.held.holds = holds_stay between.caller new.caller outcome (set s.views place (cleared v)) between.held.holds stay drop.holds in
      let load : IsBeginsLoad begin is.load = record { number = omega (arith, number, is.number, drop.begun); key = is.key ∙ ap (λ (a : LoadSpec). a.key) (sym asked) } in
      let here : IsHoldAt new.caller outcome w.view.state w.last (Some is.load) = subst (λ state. IsHoldAt new.caller outcome state w.last (Some is.load)) (sym runs) (subst (λ l. IsHoldAt new.caller outcome Running l (Some is.load)) (sym last) (load, is.has)) in
      let at : AreHolds new.caller outcome (set (set s.views place (cleared v)) place w) (set between.held.holds place (Some is.load)) = holds_set new.caller outcome (set s.views place (cleared v)) between.held.holds place w (Some is.load) kept here in
      record {
        begun = ap (λ (k : Knowledge). k.begun) is.call.knowledge ∙ counted spec is.reply (knowledge_of between.caller) is.accepted ∙ ap (λ n. n + 1) drop.begun;
        holds = subst (λ hs. AreHolds new.caller outcome (set s.views place w) hs) (sym is.holds_are)
            (subst (λ vs. AreHolds new.caller outcome vs (set between.held.holds place (Some is.load))) (set-set s.views place (cleared v) w) at);
        told = λ others. told_join laws old.caller between.caller new.caller (drop_events dropped) (begin_events (Some begin) others) drop.told (told_load laws between.caller new.caller spec is.reply begin others drop.owner is.call asked);
      }

-- ---- a turn

-- the begin of a view that takes this turn
abbrev pub begun_by : Turn → (number gathers : ℕ) → List ℕ → View Cause → Option Begin
begun_by turn number gathers name view =
    if begins turn view then Some (record { number = number; gathers = gathers; view = name; spec = request view }) else None

module _ (laws : ViewLaws) (outcome : Outcome) (s : Stage) (place : ℕ) (v : WalkView) (old between new : Standing) (stands : Stands outcome s old) (there : slice_get s.views place ≡ Some v) where
  -- a view that begins runs, or waits for its size
  begins_turn : (b : Bool) (asks : View Cause) → HasDropped outcome s place v (if has_hold v.view.state then v.last else None) old between
      → orders.Begins place (if b then Some (request asks) else None) between new
      → (let begin : Option Begin = if b then Some (record { number = s.begun + 1; gathers = s.gathers; view = v.name; spec = request asks }) else None in
      HasTurned outcome s place (record { name = v.name; view = record asks { state = if b then Running else Waiting }; last = option_or begin v.last }) (if has_hold v.view.state then v.last else None) begin old new)
  begins_turn true asks drop is =
      turns_begun laws outcome s place v (record { name = v.name; view = record asks { state = Running }; last = Some (record { number = s.begun + 1; gathers = s.gathers; view = v.name; spec = request asks }) }) _ old between drop
      (request asks) (record { number = s.begun + 1; gathers = s.gathers; view = v.name; spec = request asks }) new is refl refl refl refl
  begins_turn false asks drop is = turns_empty laws outcome s place v (record { name = v.name; view = record asks { state = Waiting }; last = v.last }) _ old between drop new is refl

  pub turns : (turn : Turn) (asks : View Cause) → asks.state ≡ v.view.state → Drops (drops turn asks.state) place old between
      → orders.Begins place (if begins turn asks then Some (request (after_turn turn asks)) else None) between new
      → (let begin = begun_by turn (s.begun + 1) s.gathers v.name asks in
      HasTurned outcome s place (record { name = v.name; view = after_turn turn asks; last = option_or begin v.last }) (if drops turn v.view.state then v.last else None) begin old new)
  turns Stays asks same drop is =
      let w : WalkView = record { name = v.name; view = after_turn Stays asks; last = v.last } in
      let at = hold_at old.caller outcome s.views old.held.holds place v stands.holds there in
      let here : IsHoldAt old.caller outcome asks.state v.last at.hold = subst (λ state. IsHoldAt old.caller outcome state v.last at.hold) (sym same) at.is in
      let kept : AreHolds old.caller outcome (set s.views place w) (set old.held.holds place at.hold) = holds_set old.caller outcome s.views old.held.holds place w at.hold stands.holds here in
      subst (HasTurned outcome s place w None None old) (sym (is ∙ drop)) (record {
        begun = omega (arith, stands.begun);
        holds = subst (AreHolds old.caller outcome (set s.views place w)) (set_there old.held.holds place at.hold at.there) kept;
        told = λ others. told_none old.caller;
      })
  turns Begins asks same drop is =
      begins_turn (has_size asks) asks (has_dropped laws outcome s place v old stands there (has_hold v.view.state) between refl (subst (λ state. Drops (has_hold state) place old between) same drop)) is
  turns Pauses asks same drop is =
      turns_empty laws outcome s place v (record { name = v.name; view = record asks { state = Paused }; last = v.last }) _ old between
      (has_dropped laws outcome s place v old stands there (has_hold v.view.state) between refl (subst (λ state. Drops (has_hold state) place old between) same drop)) new is refl
  turns Clears asks same drop is =
      turns_empty laws outcome s place v (record { name = v.name; view = record asks { state = Cleared }; last = v.last }) _ old between
      (has_dropped laws outcome s place v old stands there (has_hold v.view.state) between refl (subst (λ state. Drops (has_hold state) place old between) same drop)) new is refl

-- ---- last begins

kept_last : (gathers : ℕ) (name : List ℕ) (old new : View Cause) (last : Option Begin) → (new.state ≡ Running → old.state ≡ Running) → (new.state ≡ Complete → old.state ≡ Complete)
    → IfSome last (IsLastBegin gathers (record { name = name; view = old; last = last })) → IfSome last (IsLastBegin gathers (record { name = name; view = new; last = last }))
kept_last gathers name old new None runs shows is = tt
kept_last gathers name old new (Some begin) runs shows is = record { view_is = is.view_is; running = λ e. is.running (runs e); complete = λ e. is.complete (shows e) }

-- a view that neither runs nor is complete
other_last : (gathers : ℕ) (name : List ℕ) (old new : View Cause) (last : Option Begin) → (new.state ≡ Running → ⊥) → (new.state ≡ Complete → ⊥)
    → IfSome last (IsLastBegin gathers (record { name = name; view = old; last = last })) → IfSome last (IsLastBegin gathers (record { name = name; view = new; last = last }))
other_last gathers name old new last runs shows is = kept_last gathers name old new last (λ e. absurd (runs e)) (λ e. absurd (shows e)) is

turn_last : (turn : Turn) (number gathers : ℕ) (name : List ℕ) (old asks : View Cause) (last : Option Begin) → asks.state ≡ old.state
    → IfSome last (IsLastBegin gathers (record { name = name; view = old; last = last }))
    → (let new : WalkView = record { name = name; view = after_turn turn asks; last = option_or (begun_by turn number gathers name asks) last } in IfSome new.last (IsLastBegin gathers new))
turn_last Stays number gathers name old asks last same is = kept_last gathers name old asks last (λ e. sym same ∙ e) (λ e. sym same ∙ e) is
turn_last Begins number gathers name old asks last same is =
    elim (has_size asks) as (λ t. (let new : WalkView = record { name = name; view = record asks { state = cond t Running Waiting }; last = option_or (cond t (Some (record { number = number; gathers = gathers; view = name; spec = request asks })) None) last } in IfSome new.last (IsLastBegin gathers new))) [
      | true ↦ record { view_is = refl; running = λ e. refl; complete = λ e. cc }
      | false ↦ other_last gathers name old (record asks { state = Waiting }) last (λ e. cc) (λ e. cc) is
    ]
turn_last Pauses number gathers name old asks last same is = other_last gathers name old (record asks { state = Paused }) last (λ e. cc) (λ e. cc) is
turn_last Clears number gathers name old asks last same is = other_last gathers name old (record asks { state = Cleared }) last (λ e. cc) (λ e. cc) is

pub last_at : (move : Move Cause) → KeepsStates move → (place : ℕ) (s : Stage) (before : List Begin) (vs : List WalkView) → AreLastBegins s.gathers vs → AreLastBegins s.gathers (move_at place move s before vs).views
last_at move keeps place s before [] is = tt
last_at move keeps zero s before (v ∷ vs) is = (turn_last (move.turn v.view.state) (s.begun + 1) s.gathers v.name v.view (move.sets v.view) v.last (keeps v.view) is.0, is.1)
last_at move keeps (suc place) s before (v ∷ vs) is = (is.0, last_at move keeps place s (before ++ held v) vs is.1)

-- ---- the move of the view at a place

-- The walk's move there changes this view alone.
pub record MovesAt (place : ℕ) (move : Move Cause) (s : Stage) (before : List Begin) (vs : List WalkView) (v : WalkView) : Type 0 where
  pub others : List Begin
  pub views : (move_at place move s before vs).views ≡ set vs place (moved_view move (begin_by move (s.begun + 1) s.gathers v) v)
  pub begun : (move_at place move s before vs).begun ≡ s.begun + option_len (begin_by move (s.begun + 1) s.gathers v)
  pub events : (move_at place move s before vs).events ≡ move_events move (begin_by move (s.begun + 1) s.gathers v) others v

moves_at : (place : ℕ) (move : Move Cause) (s : Stage) (before : List Begin) (vs : List WalkView) (v : WalkView) → slice_get vs place ≡ Some v → MovesAt place move s before vs v
moves_at place move s before [] v e = cc
moves_at zero move s before (w ∷ vs) v e =
    let same : w ≡ v = cc in
    let others = before ++ all_held vs in
    subst (MovesAt zero move s before (w ∷ vs)) same (record { others = others; views = refl; begun = refl; events = refl })
moves_at (suc place) move s before (w ∷ vs) v e =
    let rest = moves_at place move s (before ++ held w) vs v e in
    record { others = rest.others; views = ap (λ l. w ∷ l) rest.views; begun = rest.begun; events = rest.events }

-- The view at a place made the move, and so did its hold.
pub record HasObeyed (outcome : Outcome) (place : ℕ) (move : Move Cause) (s : Stage) (old new : Standing) : Type 0 where
  pub stands : Stands outcome (step_at place move s).stage new
  pub told : IsTold old.caller new.caller (step_at place move s).events

pub obeys_at : ViewLaws → (outcome : Outcome) (place : ℕ) (move : Move Cause) (s : Stage) (v : WalkView) (old new : Standing) → KeepsStates move → Stands outcome s old → slice_get s.views place ≡ Some v
    → Obeys (turned_by place move v.view) old new → HasJust new.caller (loads_in new.held.holds) → HasObeyed outcome place move s old new
obeys_at laws outcome place move s v old new keeps stands there obeys just =
    let at = moves_at place move s [] s.views v there in
    let turned = turns laws outcome s place v old obeys.between new stands there (move.turn v.view.state) (move.sets v.view) (keeps v.view) obeys.drops obeys.begins in
    record {
      stands = record {
        just = just;
        begun = turned.begun ∙ sym at.begun;
        begins = last_at move keeps place s [] s.views stands.begins;
        holds = subst (λ vs. AreHolds new.caller outcome vs new.held.holds) (sym at.views) turned.holds;
      };
      told = subst (IsTold old.caller new.caller) (sym at.events) (turned.told at.others);
    }
