-- Commands that move views, beside the walk.
use Rattle.std.proofs.Common.{◌≡◌, ℕ, ◌+◌, ◌≤◌, Bool, true, false, if◌then◌else◌, List, [], ◌∷◌, ◌++◌, length, map, zero, suc, Some, None, Option, refl, ap, sym, subst, ◌∙◌, arith}
use Rattle.std.specs.Prelude.{◌||◌, nat_lt}
use Rattle.std.specs.Option.{option_len, option_map_or, option_to_list}
use Rattle.std.proofs.lemmas.Bool.{ltb-true}
use Rattle.std.proofs.lemmas.List.{length-append, map-append}
use Rattle.load_cause.specs.declared.causes.Cause.{Cause}
use Rattle.request_tracker.specs.declared.views.Act.{Act}
use Rattle.request_tracker.specs.declared.views.Act.TheVariants as acts
use Rattle.request_tracker.specs.declared.views.Ask.{Ask}
use Rattle.request_tracker.specs.declared.views.Order.{Order}
use Rattle.request_tracker.specs.declared.views.View.{View}
use Rattle.request_tracker.specs.Limits.{views_limit}
use Rattle.request_tracker.specs.Moves.{Views, Tracked, Move, moved, moved_at, changed_at, place_of, is_known, load_move, act_move, new_view, after_load, load_order, order_by_name, moved_by_name}
use Rattle.request_tracker.specs.Moves as tracker
use Rattle.script_lines.specs.declared.commands.Command.{Command}
use Rattle.script_lines.specs.declared.commands.Command.TheVariants as commands
use Rattle.script_walk.specs.Walk.{Begin, WalkView, Outcome, Stage, Step, begin_by, held, moved_view, each_move, only, every, has_name, names_of, with_view, step}
use Rattle.script_walk.specs.Tracked.{AreDistinct, tracked, tracked_view, after, acted_all, TrackerMakesTheMoves}
use Rattle.script_walk.specs.ByPlace.{after_each, MovesGoByPlace}
use Rattle.engine_shared.specs.Caller.{Caller}
use Rattle.engine_views.specs.Held.{Holds, Held, loads_in}
use Rattle.engine_views.specs.Owner.{HasJust}
use Rattle.engine_views.specs.Following.{AreHolds, AreLastBegins, Standing, standing, Follows, IsMoved, act_command}
use Rattle.engine_views.specs.inside.Orders.{asked_by, Obeys, paused_after, with_hold, Stands, KeepsStates, HasObeyedAll}
use Rattle.engine_views.specs.declared.turned.Turned.{Turned}
use Rattle.engine_views.specs.inside.ViewLaws.{ViewLaws}
use Rattle.engine_views.proofs.Told.{IsTold}
use Rattle.engine_views.proofs.Orders.{HasObeyed, obeys_at}
use Rattle.engine_views.proofs.Turning.{IsTurnOf, turn_of}
use Rattle.engine_views.proofs.Steps.{begun_most, steps_most}

pub stands_of : (outcome : Outcome) (s : Stage) (at : Standing) → Follows outcome s at → Stands outcome s at
stands_of outcome s at is = record { just = is.just; begun = is.begun; begins = is.begins; holds = is.holds }

-- they stand alike, whatever the tracker has
pub stands_beside : (outcome : Outcome) (s : Stage) (c : Caller) (old new : Held) → new.holds ≡ old.holds → Stands outcome s (standing c old) → Stands outcome s (standing c new)
stands_beside outcome s c old new same is = record {
  just = subst (λ hs. HasJust c (loads_in hs)) (sym same) is.just;
  begun = is.begun;
  begins = is.begins;
  holds = subst (AreHolds c outcome s.views) (sym same) is.holds;
}

-- ---- a view that is made

pub loads_push : (holds : Holds) → loads_in (holds ++ None ∷ []) ≡ loads_in holds
loads_push [] = refl
loads_push (h ∷ hs) = ap (λ l. option_to_list h ++ l) (loads_push hs)

pub loads_with_hold : (known : Bool) (holds : Holds) → loads_in (with_hold known holds) ≡ loads_in holds
loads_with_hold true holds = refl
loads_with_hold false holds = loads_push holds

abbrev fresh : List ℕ → Ask → WalkView
fresh name ask = record { name = name; view = new_view ask; last = None }

last_push : (gathers : ℕ) (name : List ℕ) (ask : Ask) (vs : List WalkView) → AreLastBegins gathers vs → AreLastBegins gathers (vs ++ fresh name ask ∷ [])
last_push gathers name ask [] is = (tt, tt)
last_push gathers name ask (v ∷ vs) is = (is.0, last_push gathers name ask vs is.1)

holds_push : (c : Caller) (outcome : Outcome) (name : List ℕ) (ask : Ask) (vs : List WalkView) (hs : Holds) → AreHolds c outcome vs hs → AreHolds c outcome (vs ++ fresh name ask ∷ []) (hs ++ None ∷ [])
holds_push c outcome name ask [] [] is = (refl, tt)
holds_push c outcome name ask [] (h ∷ hs) is = absurd is
holds_push c outcome name ask (v ∷ vs) [] is = absurd is
holds_push c outcome name ask (v ∷ vs) (h ∷ hs) is = (is.0, holds_push c outcome name ask vs hs is.1)

-- the views with this one, by whether it is known
abbrev pub known_stage : List ℕ → Ask → Bool → Stage → Stage
known_stage name ask known s = record s { views = if known then s.views else s.views ++ fresh name ask ∷ [] }

pub stands_made : (outcome : Outcome) (name : List ℕ) (ask : Ask) (known : Bool) (s : Stage) (c : Caller) (old new : Held) → new.holds ≡ with_hold known old.holds → Stands outcome s (standing c old) → Stands outcome (known_stage name ask known s) (standing c new)
stands_made outcome name ask true s c old new same is = stands_beside outcome s c old new same is
stands_made outcome name ask false s c old new same is = record {
  just = subst (λ hs. HasJust c (loads_in hs)) (sym same) (subst (HasJust c) (sym (loads_push old.holds)) is.just);
  begun = is.begun;
  begins = last_push s.gathers name ask s.views is.begins;
  holds = subst (AreHolds c outcome (s.views ++ fresh name ask ∷ [])) (sym same) (holds_push c outcome name ask s.views old.holds is.holds);
}

-- moves keep the names
pub each_names : (moves : List ℕ → Move Cause) (k g : ℕ) (before : List Begin) (vs : List WalkView) → names_of (each_move moves k g before vs).views ≡ names_of vs
each_names moves k g before [] = refl
each_names moves k g before (v ∷ vs) =
    let begin = begin_by (moves v.name) (k + 1) g v in
    ap (λ l. v.name ∷ l) (each_names moves (k + option_len begin) g (before ++ held (moved_view (moves v.name) begin v)) vs)

-- ---- what a command did

-- The holds stand where such a step leads to, and the engine was told of its events.
pub record HasStepped (outcome : Outcome) (s : Stage) (x : Step) (old new : Standing) : Type 0 where
  pub stands : Stands outcome x.stage new
  pub told : IsTold old.caller new.caller x.events
  pub few : x.stage.begun ≤ s.begun + views_limit

pub is_moved : TrackerMakesTheMoves → (command : Command) (outcome : Outcome) (s : Stage) (old new : Standing) → Follows outcome s old → HasStepped outcome s (step outcome s command) old new → new.held.tracked ≡ after outcome s command → IsMoved command outcome s old new
is_moved tracks command outcome s old new follows stepped tracked_is = record {
  follows = record {
    just = stepped.stands.just;
    begun = stepped.stands.begun;
    tracked_is = tracked_is;
    distinct = (tracks outcome s follows.distinct).distinct command;
    begins = stepped.stands.begins;
    holds = stepped.stands.holds;
  };
  adds = stepped.told.adds;
  no_job = stepped.told.no_job;
  few = omega (arith, stepped.few, stepped.stands.begun, follows.begun);
}

-- ---- the view of a name

pub named_steps : ViewLaws → MovesGoByPlace → (outcome : Outcome) (s : Stage) (name : List ℕ) (move : Move Cause) (turned : Turned) (old new : Standing) → KeepsStates move → AreDistinct (names_of s.views) → Stands outcome s old
    → IsTurnOf name move s turned → Obeys turned old new → HasJust new.caller (loads_in new.held.holds) → HasStepped outcome s (after_each (only name move) s) old new
named_steps laws goes outcome s name move turned old new keeps distinct stands turn obeys just =
    let one : HasObeyed outcome turn.place move s old new = obeys_at laws outcome turn.place move s turn.v old new keeps stands turn.there (subst (λ (t : Turned). Obeys t old new) turn.is obeys) just in
    subst (λ (x : Step). HasStepped outcome s x old new) (sym ((goes s move).one name turn.place distinct turn.place_is))
    (record { stands = one.stands; told = one.told; few = omega (arith, begun_most move turn.place s [] s.views) })

-- The tracker ordered a move of the view of a name.
pub record IsOrdered (name : List ℕ) (move : Move Cause) (outcome : Outcome) (s : Stage) (turned : Turned) (c : Caller) (mid : Held) : Type 0 where
  pub stands : Stands outcome s (standing c mid)
  pub turn : IsTurnOf name move s turned
  pub moved_is : mid.tracked ≡ moved_by_name name move (tracked s)

pub named_ordered : (name : List ℕ) (move : Move Cause) (outcome : Outcome) (s : Stage) (turned : Turned) (order : Order) (c : Caller) (old mid : Held) → Follows outcome s (standing c old) → mid.holds ≡ old.holds
    → Some order ≡ order_by_name name move old.tracked → mid.tracked ≡ moved_by_name name move old.tracked → turned.order ≡ order → turned.spec ≡ asked_by order mid.tracked → IsOrdered name move outcome s turned c mid
named_ordered name move outcome s turned order c old mid follows holds_are ordered moved_is order_is spec_is =
    let now : mid.tracked ≡ moved_by_name name move (tracked s) = moved_is ∙ ap (moved_by_name name move) follows.tracked_is in
    record {
      stands = stands_beside outcome s c old mid holds_are (stands_of outcome s (standing c old) follows);
      turn = turn_of name move s turned order mid.tracked (ordered ∙ ap (order_by_name name move) follows.tracked_is) now order_is spec_is;
      moved_is = now;
    }

-- One call for it: the tracker moved, its order was obeyed, and the holds stood at the stage that the command sets.
pub named_moves : ViewLaws → MovesGoByPlace → TrackerMakesTheMoves → (command : Command) (outcome : Outcome) (s set : Stage) (name : List ℕ) (move : Move Cause) (turned : Turned) (old mid new : Standing) → KeepsStates move
    → mid.caller ≡ old.caller → set.begun ≡ s.begun → AreDistinct (names_of set.views) → step outcome s command ≡ after_each (only name move) set → Follows outcome s old → Stands outcome set mid
    → IsTurnOf name move set turned → Obeys turned mid new → HasJust new.caller (loads_in new.held.holds) → new.held.tracked ≡ after outcome s command → IsMoved command outcome s old new
named_moves laws goes tracks command outcome s set name move turned old mid new keeps caller begun distinct is follows stands turn obeys just tracked_is =
    let stepped : HasStepped outcome set (step outcome s command) mid new = subst (λ (x : Step). HasStepped outcome set x mid new) (sym is) (named_steps laws goes outcome set name move turned mid new keeps distinct stands turn obeys just) in
    is_moved tracks command outcome s old new follows
    (record { stands = stepped.stands; told = subst (λ c. IsTold c new.caller (step outcome s command).events) caller stepped.told; few = omega (arith, stepped.few, begun) }) tracked_is

-- ---- all views

pub all_step : MovesGoByPlace → (outcome : Outcome) (s : Stage) (move : Move Cause) (old new : Standing) → length s.views ≤ views_limit → HasObeyedAll outcome s move old new → HasStepped outcome s (after_each (every move) s) old new
all_step goes outcome s move old new within is =
    subst (λ (x : Step). HasStepped outcome s x old new) (sym (goes s move).all)
    (record { stands = is.stands; told = record { adds = is.adds; no_job = is.no_job }; few = omega (arith, within, steps_most move (length s.views) 0 s) })

-- an act of all views, where those of the tracker made it
pub acts_moved : MovesGoByPlace → TrackerMakesTheMoves → (act : Act) (outcome : Outcome) (s : Stage) (old new : Standing) → Follows outcome s old → length s.views ≤ views_limit
    → HasObeyedAll outcome (record s { paused = paused_after act s.paused }) (act_move act) old new
    → new.held.tracked ≡ acted_all act (record old.held.tracked { paused = paused_after act old.held.tracked.paused }) → IsMoved (act_command act) outcome s old new
acts_moved goes tracks act outcome s old new follows within all tracked_is =
    let law = tracks outcome s follows.distinct in
    let set : Stage = record s { paused = paused_after act s.paused } in
    let stepped : HasStepped outcome set (after_each (every (act_move act)) set) old new = all_step goes outcome set (act_move act) old new within all in
    let now : new.held.tracked ≡ acted_all act (record (tracked s) { paused = paused_after act s.paused }) = tracked_is ∙ ap (λ (t : Tracked Cause). acted_all act (record t { paused = paused_after act t.paused })) follows.tracked_is in
    elim act as (λ a. HasStepped outcome (record s { paused = paused_after a s.paused }) (after_each (every (act_move a)) (record s { paused = paused_after a s.paused })) old new
    → new.held.tracked ≡ acted_all a (record (tracked s) { paused = paused_after a s.paused }) → IsMoved (act_command a) outcome s old new) [
      | acts.Pause ↦ λ so t. is_moved tracks (act_command acts.Pause) outcome s old new follows (record { stands = so.stands; told = so.told; few = so.few }) (t ∙ sym law.pause)
      | acts.PauseAll ↦ λ so t. is_moved tracks (act_command acts.PauseAll) outcome s old new follows (record { stands = so.stands; told = so.told; few = so.few }) (t ∙ sym law.pause_all)
      | acts.Resume ↦ λ so t. is_moved tracks (act_command acts.Resume) outcome s old new follows (record { stands = so.stands; told = so.told; few = so.few }) (t ∙ sym law.resume)
      | acts.ClearAll ↦ λ so t. is_moved tracks (act_command acts.ClearAll) outcome s old new follows (record { stands = so.stands; told = so.told; few = so.few }) (t ∙ sym law.clear_all)
    ] stepped now

-- ---- loads, which may make a view

length-changed : (place : ℕ) (change : View Cause → View Cause) (views : Views Cause) → length (changed_at place change views) ≡ length views
length-changed place change [] = refl
length-changed zero change (v ∷ vs) = refl
length-changed (suc place) change (v ∷ vs) = ap suc (length-changed place change vs)

length-moved : (move : Move Cause) (t : Tracked Cause) (place : Option ℕ) → length (option_map_or (λ at. moved_at at move t) place t).views ≡ length t.views
length-moved move t None = refl
length-moved move t (Some place) = length-changed place (moved move) t.views

length-made : (name : List ℕ) (ask : Ask) (views : Views Cause) (holds : Holds) (known : Bool) → length holds ≡ length views
    → length (with_hold known holds) ≡ length (if known then views else views ++ (name, new_view ask) ∷ [])
length-made name ask views holds true e = e
length-made name ask views holds false e = omega (arith, e, length-append holds (None ∷ []), length-append views ((name, new_view ask) ∷ []))

pub loaded_count : (name : List ℕ) (ask : Ask) (t : Tracked Cause) (holds : Holds) → length holds ≡ length t.views → length (with_hold (is_known name t.views) holds) ≡ length (after_load name ask t).views
loaded_count name ask t holds e =
    let set = tracker.with_view name ask t in
    length-made name ask t.views holds (is_known name t.views) e ∙ sym (length-moved (load_move t.paused ask) set (place_of name set.views))

pub loaded_within : (known : Bool) (count : ℕ) (holds : Holds) → (known || nat_lt count views_limit) ≡ true → length holds ≡ count → length holds ≤ views_limit → length (with_hold known holds) ≤ views_limit
loaded_within true count holds can e within = within
loaded_within false count holds can e within = omega (arith, ltb-true count views_limit can, e, length-append holds (None ∷ []))

made_tracked : (name : List ℕ) (ask : Ask) (known : Bool) (s : Stage)
    → (let made : Tracked Cause = record { views = if known then map tracked_view s.views else map tracked_view s.views ++ (name, new_view ask) ∷ []; paused = s.paused } in made ≡ tracked (known_stage name ask known s))
made_tracked name ask true s = refl
made_tracked name ask false s =
    let with : Views Cause → Tracked Cause = λ vs. record { views = vs; paused = s.paused } in
    ap with (sym (map-append tracked_view s.views (fresh name ask ∷ [])))

-- A load was ordered by the tracker, and has a place for its hold.
pub record IsLoadOrdered (name : List ℕ) (ask : Ask) (outcome : Outcome) (s : Stage) (turned : Turned) (c : Caller) (mid : Held) : Type 0 where
  pub distinct : AreDistinct (names_of (with_view name ask s).views)
  pub stands : Stands outcome (with_view name ask s) (standing c mid)
  pub turn : IsTurnOf name (load_move s.paused ask) (with_view name ask s) turned
  pub after_is : mid.tracked ≡ after outcome s (commands.Load name ask.spec ask.sized)

pub load_ordered : TrackerMakesTheMoves → (name : List ℕ) (ask : Ask) (outcome : Outcome) (s : Stage) (turned : Turned) (order : Order) (c : Caller) (old mid : Held) (known : Bool) → Follows outcome s (standing c old)
    → known ≡ is_known name old.tracked.views → mid.holds ≡ with_hold known old.holds → Some order ≡ load_order name ask old.tracked → mid.tracked ≡ after_load name ask old.tracked
    → turned.order ≡ order → turned.spec ≡ asked_by order mid.tracked → IsLoadOrdered name ask outcome s turned c mid
load_ordered tracks name ask outcome s turned order c old mid known follows known_is holds_are ordered after_is order_is spec_is =
    let law = tracks outcome s follows.distinct in
    let move = load_move {C = Cause} s.paused ask in
    let set = with_view name ask s in
    let there : old.tracked ≡ tracked s = follows.tracked_is in
    let same : known ≡ has_name name (names_of s.views) = known_is ∙ ap (λ (t : Tracked Cause). is_known name t.views) there ∙ sym (law.known name) in
    let made : tracker.with_view name ask (tracked s) ≡ tracked set =
    ap (λ k. let t : Tracked Cause = record { views = if k then map tracked_view s.views else map tracked_view s.views ++ (name, new_view ask) ∷ []; paused = s.paused } in t) (sym (law.known name))
    ∙ made_tracked name ask (has_name name (names_of s.views)) s in
    record {
      distinct = subst AreDistinct (each_names (only name move) set.begun set.gathers [] set.views) (law.distinct (commands.Load name ask.spec ask.sized));
      stands = stands_made outcome name ask (has_name name (names_of s.views)) s c old mid (holds_are ∙ ap (λ k. with_hold k old.holds) same) (stands_of outcome s (standing c old) follows);
      turn = turn_of name move set turned order mid.tracked
          (ordered ∙ ap (λ (t : Tracked Cause). load_order name ask t) there ∙ ap (order_by_name name move) made)
          (after_is ∙ ap (λ (t : Tracked Cause). after_load name ask t) there ∙ ap (moved_by_name name move) made)
          order_is spec_is;
      after_is = after_is ∙ ap (λ (t : Tracked Cause). after_load name ask t) there ∙ sym (law.load name ask.spec ask.sized);
    }
