use Rattle.std.proofs.Common.{Some, ap, ◌∙◌}
use Rattle.std.proofs.lemmas.Result.{IfOk-weaker, on_ok_weaker}
use Rattle.request_tracker.specs.Table.{after_turn, turn_order}
use Rattle.request_tracker.specs.Moves.{load_move, new_view, moved}
use Rattle.request_tracker.proofs.Places.{changed-is, view-is, order-is, found-is, missing-is, load-turn, known-order, known-views, order-in, new-order, new-views, new-in, both_ok}
use Rattle.request_tracker.proofs.tracker.Tracker.load.Goals as goal

pub returns-in-Some-clause-order : goal.returns-in-Some-clause-order
returns-in-Some-clause-order g c =
    let now = c.args.self.now in
    let views = c.self.inside.views.entries in
    let paused = c.self.inside.paused in
    let place = c.in-Some.place in
    let move = load_move {C = g.row.C.Denot} now.paused c.args.ask in
    let view = c.index_mut-known.result.now in
    known-order now c.args.view.now place c.args.ask (Some c.take.result) (found-is now views paused c.args.view.now place c.self.view_is c.in-Some.ensures.index)
    (order-is now place move view c.take.result (view-is now views paused place view c.self.view_is c.index_mut-known.ensures.value)
    (c.take.ensures.order ∙ ap (λ t. turn_order place t (move.sets view)) (load-turn now views paused c.of_load-turn.result view.state c.self.view_is c.of_load-turn.ensures)))

pub returns-in-Some-clause-views : goal.returns-in-Some-clause-views
returns-in-Some-clause-views g c =
    let now = c.args.self.now in
    let views = c.self.inside.views.entries in
    let paused = c.self.inside.paused in
    let place = c.in-Some.place in
    let move = load_move {C = g.row.C.Denot} now.paused c.args.ask in
    let view = c.index_mut-known.result.now in
    known-views now _ c.args.view.now place c.args.ask (found-is now views paused c.args.view.now place c.self.view_is c.in-Some.ensures.index)
    (changed-is now views paused place view c.take.new.self (moved move) c.self.view_is c.index_mut-known.ensures.value
    (c.take.ensures.view ∙ ap (λ t. after_turn t (move.sets view)) (load-turn now views paused c.of_load-turn.result view.state c.self.view_is c.of_load-turn.ensures)))

pub returns-in-None-clause-order : goal.returns-in-None-clause-order
returns-in-None-clause-order g c =
    let now = c.args.self.now in
    let views = c.self.inside.views.entries in
    let paused = c.self.inside.paused in
    let none = missing-is now views paused c.args.view.now c.self.view_is c.in-None.ensures.index in
    let turns = load-turn now views paused c.of_load-turn.result (new_view {C = g.row.C.Denot} c.args.ask).state c.self.view_is c.of_load-turn.ensures in
    IfOk-weaker c.add.result _ _ (λ order is. new-order now c.args.view.now c.args.ask c.of_load-turn.result order none turns is) c.add.ensures.order

pub returns-in-None-clause-views : goal.returns-in-None-clause-views
returns-in-None-clause-views g c =
    let now = c.args.self.now in
    let views = c.self.inside.views.entries in
    let paused = c.self.inside.paused in
    let none = missing-is now views paused c.args.view.now c.self.view_is c.in-None.ensures.index in
    let turns = load-turn now views paused c.of_load-turn.result (new_view {C = g.row.C.Denot} c.args.ask).state c.self.view_is c.of_load-turn.ensures in
    on_ok_weaker c.add.result (λ is. new-views now c.add.new.self c.args.view.now c.args.ask c.of_load-turn.result none turns is) c.add.ensures.views

pub returns-in-Some-clause-place : goal.returns-in-Some-clause-place
returns-in-Some-clause-place g c =
    let now = c.args.self.now in
    let views = c.self.inside.views.entries in
    let paused = c.self.inside.paused in
    let place = c.in-Some.place in
    let move = load_move {C = g.row.C.Denot} now.paused c.args.ask in
    let view = c.index_mut-known.result.now in
    let turns = load-turn now views paused c.of_load-turn.result view.state c.self.view_is c.of_load-turn.ensures in
    order-in now _ place move view c.take.result (view-is now views paused place view c.self.view_is c.index_mut-known.ensures.value) (c.take.ensures.order ∙ ap (λ t. turn_order place t (move.sets view)) turns)
    (changed-is now views paused place view c.take.new.self (moved move) c.self.view_is c.index_mut-known.ensures.value (c.take.ensures.view ∙ ap (λ t. after_turn t (move.sets view)) turns))

pub returns-in-None-clause-place : goal.returns-in-None-clause-place
returns-in-None-clause-place g c =
    let now = c.args.self.now in
    let turns = load-turn now c.self.inside.views.entries c.self.inside.paused c.of_load-turn.result (new_view {C = g.row.C.Denot} c.args.ask).state c.self.view_is c.of_load-turn.ensures in
    both_ok c.add.result (λ order is added. new-in now c.add.new.self c.args.view.now c.args.ask c.of_load-turn.result order turns is added) c.add.ensures.order c.add.ensures.views
