use Rattle.std.proofs.Common.{◌≡◌, ◌+◌, ◌∷◌, ◌++◌, [], Some, length, take, ap, sym, ◌∙◌, arith}
use Rattle.std.specs.Prelude.{slice_get}
use Rattle.std.specs.Option.{option_map}
use Rattle.load_cause.specs.declared.causes.Cause.{Cause}
use Rattle.request_tracker.specs.Moves.{Views, Tracked, moved, move_order, view_at, order_at, moved_at, act_move}
use Rattle.engine_views.specs.Held.{Held}
use Rattle.engine_views.specs.inside.Orders.{turned_by, orders_of}
use Rattle.engine_views.proofs.Turning.{OrderedView, ordered_view, turned_is, moved_to, beyond_moved, moved_next, view_moved, all_moved, length_orders, order_there, take_next, take_whole}
use Rattle.engine_views.proofs.holds.EngineViews.turn_each.Goals as goal

pub loop-place-preserved : goal.loop-place-preserved
loop-place-preserved c =
    let move = act_move {C = Cause} c.args.act in
    let views = c.args.self.now.tracked.views in
    let with : Views Cause → Tracked Cause = λ l. record c.args.self.now.tracked { views = l } in
    let place = c.loop-place.place in
    let order = c.act-order.result in
    let turned = c.in_ok-turned.turned in
    let here : c.self-in-loop-place.inside.tracker ≡ with (moved_to place move views) = ap (λ (h : Held). h.tracked) c.self-in-loop-place.view_is ∙ c.loop-place.invariant.tracked_is in
    let ordered : Some order ≡ option_map (move_order place move) (view_at place views) =
    c.act-order.ensures.order ∙ ap (order_at place move) here ∙ ap (option_map (move_order place move)) (beyond_moved place move views) in
    let one : OrderedView place place move order views = ordered_view place place move order views ordered in
    let now : c.act-order.new.self ≡ with (moved_to (place + 1) move views) = c.act-order.ensures.views ∙ ap (moved_at place move) here ∙ ap with (moved_next place move views) in
    let there : view_at place c.act-order.new.self.views ≡ Some (moved move one.view.1) = ap (λ (t : Tracked Cause). view_at place t.views) now ∙ view_moved place move views one.view one.there in
    let is : turned ≡ turned_by place move one.view.1 = turned_is turned order place move one.view.1 c.act-order.new.self c.in_ok-turned.ensures.order c.in_ok-turned.ensures.spec one.is there in
    let same : 0 + place ≡ place = omega arith in
    let at : slice_get (orders_of move views) place ≡ Some (turned_by place move one.view.1) = order_there 0 place move views one.view one.there ∙ ap (λ n. Some (turned_by n move one.view.1)) same in
    record {
      items = c.in-Ok.ensures.items ∙ ap (λ l. l ++ turned ∷ []) c.loop-place.invariant.items ∙ ap (λ x. take place (orders_of move views) ++ x ∷ []) is ∙ sym (take_next (orders_of move views) place (turned_by place move one.view.1) at);
      tracked_is = now;
      holds_are = ap (λ (h : Held). h.holds) c.self-in-loop-place.view_is ∙ c.loop-place.invariant.holds_are;
    }

pub returns-clause-orders : goal.returns-clause-orders
returns-clause-orders c =
    let move = act_move {C = Cause} c.args.act in
    let views = c.args.self.now.tracked.views in
    let count : c.loop-place.place ≡ length (orders_of move views) =
    omega (arith, length_orders 0 move views, ap (λ (h : Held). length h.tracked.views) c.self.view_is, c.count-place-end.ensures, c.loop-place-test.false, c.loop-place.auto.place-end) in
    c.loop-place.invariant.items ∙ ap (λ n. take n (orders_of move views)) count ∙ take_whole (orders_of move views)

pub returns-clause-tracked : goal.returns-clause-tracked
returns-clause-tracked c =
    let move = act_move {C = Cause} c.args.act in
    let views = c.args.self.now.tracked.views in
    let with : Views Cause → Tracked Cause = λ l. record c.args.self.now.tracked { views = l } in
    let count : c.loop-place.place ≡ length views =
    omega (arith, ap (λ (h : Held). length h.tracked.views) c.self.view_is, c.count-place-end.ensures, c.loop-place-test.false, c.loop-place.auto.place-end) in
    c.loop-place.invariant.tracked_is ∙ ap with (ap (λ n. moved_to n move views) count ∙ all_moved move views)
