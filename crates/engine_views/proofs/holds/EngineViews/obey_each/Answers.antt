use Rattle.std.proofs.Common.{◌≡◌, ℕ, ◌<◌, ◌≤◌, List, Some, length, refl, ap, sym, subst, ◌∙◌, arith}
use Rattle.std.specs.Prelude.{slice_get}
use Rattle.std.proofs.lemmas.List.{length-map, length_push}
use Rattle.std.proofs.lemmas.Option.{slice_get_read}
use Rattle.std.proofs.lemmas.Iterator.Consumers.{YieldsList-turn, YieldsList-end}
use Rattle.std.proofs.lemmas.Iterator.Adapters.{YieldsList-from_vec}
use Rattle.load_cause.specs.declared.causes.Cause.{Cause}
use Rattle.request_tracker.specs.Limits.{views_limit}
use Rattle.request_tracker.specs.Moves.{Move}
use Rattle.script_walk.specs.Walk.{Stage}
use Rattle.script_walk.specs.Tracked.{tracked, tracked_view}
use Rattle.engine_views.specs.Following.{standing}
use Rattle.engine_views.specs.inside.Orders.{Obeys, orders_of}
use Rattle.engine_views.specs.declared.turned.Turned.{Turned}
use Rattle.engine_views.proofs.Staying.{within_limit}
use Rattle.engine_views.proofs.Turning.{IsTurnAt, turn_at, length_orders}
use Rattle.engine_views.proofs.Steps.{HasObeyedTo, CanObey, can_obey_next, obeyed_more, obeyed_all}
use Rattle.engine_views.proofs.holds.EngineViews.obey_each.Goals as goal

-- the next order is that of the next view
next_turn : (all : List Turned) (count : ℕ) (turned : Turned) (move : Move Cause) (s : Stage) → slice_get all count ≡ Some turned → count < length all → all ≡ orders_of move (tracked s).views → IsTurnAt count move s turned
next_turn all count turned move s there less is =
    turn_at count move s turned (omega (arith, less, ap length is, length_orders 0 move (tracked s).views, length-map s.views tracked_view)) (ap (λ l. slice_get l count) (sym is) ∙ there)

pub obey-requires : goal.obey-requires
obey-requires g c =
    let caller = g.E.EngineCalls.caller in
    let old = standing (caller c.args.engine.now) c.args.self.now in
    let mid = standing (caller c.loop-turned.engine) c.loop-turned.self in
    let can = c.requires.can in
    let all = c.args.all.items in
    let gives = c.into_iter-turned-iterator.ensures.into_iter_gives in
    let t = YieldsList-turn (YieldsList-from_vec {s = c.into_iter-turned-iterator.result} all gives.0 (gives.1 ∙ c.args.all.ok.0)) c.loop-turned.yielded c.loop-turned.turned-iterator c.loop-turned.yielded_by c.next.result c.next.new.self c.in-Some.turned c.in-Some.is c.next.ensures.steps in
    let count = length c.loop-turned.yielded in
    let there : slice_get all count ≡ Some c.in-Some.turned = slice_get_read all (length all) count c.in-Some.turned refl t.0 t.1 in
    let turn : IsTurnAt count can.2 can.1 c.in-Some.turned = next_turn all count c.in-Some.turned can.2 can.1 there t.0 can.5 in
    let within : length can.1.views ≤ views_limit = within_limit (caller c.args.engine.now) can.0 can.1.views (record { tracked = c.self.inside.tracker; holds = c.self.inside.holds.items }) c.args.self.now c.self.invariant.1 c.self.view_is can.4.holds in
    let is : CanObey c.in-Some.turned mid = can_obey_next count can.0 can.1 can.2 c.in-Some.turned old mid can.3 can.4 within c.requires.few (c.loop-turned.invariant.obeyed can.0 can.1 can.2 can.3 can.4 can.5) turn in
    record { place = is.place; just = is.just; few = is.few; free = is.free }

pub loop-turned-preserved : goal.loop-turned-preserved
loop-turned-preserved g c =
    let caller = g.E.EngineCalls.caller in
    let old = standing (caller c.args.engine.now) c.args.self.now in
    let mid = standing (caller c.loop-turned.engine) c.loop-turned.self in
    let new = standing (caller c.obey.new.engine) c.obey.new.self in
    let all = c.args.all.items in
    let gives = c.into_iter-turned-iterator.ensures.into_iter_gives in
    let t = YieldsList-turn (YieldsList-from_vec {s = c.into_iter-turned-iterator.result} all gives.0 (gives.1 ∙ c.args.all.ok.0)) c.loop-turned.yielded c.loop-turned.turned-iterator c.loop-turned.yielded_by c.next.result c.next.new.self c.in-Some.turned c.in-Some.is c.next.ensures.steps in
    let count = length c.loop-turned.yielded in
    let there : slice_get all count ≡ Some c.in-Some.turned = slice_get_read all (length all) count c.in-Some.turned refl t.0 t.1 in
    record {
      tracked_is = c.obey.ensures.tracked ∙ c.loop-turned.invariant.tracked_is;
      obeyed = λ outcome s move keeps stands all_is.
          let turn : IsTurnAt count move s c.in-Some.turned = next_turn all count c.in-Some.turned move s there t.0 all_is in
          subst (λ n. HasObeyedTo n outcome s move old new) (sym (length_push c.loop-turned.yielded c.in-Some.turned))
          (obeyed_more c.laws_of_moves.ensures count outcome s move turn.v old mid new keeps (c.loop-turned.invariant.obeyed outcome s move keeps stands all_is) turn.there
          (subst (λ (x : Turned). Obeys x mid new) turn.is c.obey.ensures.obeys) c.obey.ensures.just);
    }

pub returns-clause-obeys : goal.returns-clause-obeys
returns-clause-obeys g c outcome s move keeps stands all_is =
    let caller = g.E.EngineCalls.caller in
    let old = standing (caller c.args.engine.now) c.args.self.now in
    let new = standing (caller c.loop-turned.engine) c.loop-turned.self in
    let all = c.args.all.items in
    let gives = c.into_iter-turned-iterator.ensures.into_iter_gives in
    let t = YieldsList-end (YieldsList-from_vec {s = c.into_iter-turned-iterator.result} all gives.0 (gives.1 ∙ c.args.all.ok.0)) c.loop-turned.yielded c.loop-turned.turned-iterator c.loop-turned.yielded_by c.next.result c.next.new.self c.in-None.is c.next.ensures.steps in
    let count : length c.loop-turned.yielded ≡ length s.views = omega (arith, t.1, ap length all_is, length_orders 0 move (tracked s).views, length-map s.views tracked_view) in
    obeyed_all outcome s move old new stands (subst (λ n. HasObeyedTo n outcome s move old new) count (c.loop-turned.invariant.obeyed outcome s move keeps stands all_is))
