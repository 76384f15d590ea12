use Rattle.std.proofs.Common.{ap, ◌∙◌}
use Rattle.request_tracker.specs.Table.{after_turn, turn_order}
use Rattle.request_tracker.specs.Moves.{act_move, moved}
use Rattle.request_tracker.proofs.Places.{changed-is, view-is, order-is, order-in, count-changed}
use Rattle.request_tracker.proofs.tracker.Tracker.act.Goals as goal

pub returns-clause-order : goal.returns-clause-order
returns-clause-order g c =
    let view = c.index_mut-view.result.now in
    order-is c.args.self.now c.args.place (act_move c.args.act) view c.take.result (view-is c.args.self.now c.self.inside.views.entries c.self.inside.paused c.args.place view c.self.view_is c.index_mut-view.ensures.value)
    (c.take.ensures.order ∙ ap (λ t. turn_order c.args.place t view) c.acted-turn.ensures)

pub returns-clause-views : goal.returns-clause-views
returns-clause-views g c =
    let view = c.index_mut-view.result.now in
    changed-is c.args.self.now c.self.inside.views.entries c.self.inside.paused c.args.place view c.take.new.self (moved (act_move c.args.act)) c.self.view_is c.index_mut-view.ensures.value
    (c.take.ensures.view ∙ ap (λ t. after_turn t view) c.acted-turn.ensures)

pub returns-clause-place : goal.returns-clause-place
returns-clause-place g c =
    let view = c.index_mut-view.result.now in
    order-in c.args.self.now _ c.args.place (act_move c.args.act) view c.take.result (view-is c.args.self.now c.self.inside.views.entries c.self.inside.paused c.args.place view c.self.view_is c.index_mut-view.ensures.value)
    (c.take.ensures.order ∙ ap (λ t. turn_order c.args.place t view) c.acted-turn.ensures) (returns-clause-views g c)

pub returns-clause-count : goal.returns-clause-count
returns-clause-count g c = count-changed c.args.self.now _ c.args.place (moved (act_move c.args.act)) (returns-clause-views g c)
