use Rattle.std.proofs.Common.{Some, ap, sym, ◌∙◌}
use Rattle.request_tracker.specs.Table.{after_turn, turn_order}
use Rattle.request_tracker.specs.Moves.{layout_move, moved, place_of}
use Rattle.request_tracker.proofs.Places.{changed-is, view-is, order-is, found-is, order-by_name, views-by_name, order-in, count-changed}
use Rattle.request_tracker.proofs.tracker.Tracker.layout.Goals as goal

pub returns-clause-order : goal.returns-clause-order
returns-clause-order g c =
    let now = c.args.self.now in
    let place = c.in_ok-place.place in
    let move = layout_move {C = g.row.C.Denot} c.args.width c.args.height in
    let view = c.index_mut-known.result.now in
    order-by_name now c.args.view.now place move (Some c.take.result) (found-is now c.self.inside.views.entries c.self.inside.paused c.args.view.now place c.self.view_is c.in_ok-place.ensures.index)
    (order-is now place move view c.take.result (view-is now c.self.inside.views.entries c.self.inside.paused place view c.self.view_is c.index_mut-known.ensures.value)
    (c.take.ensures.order ∙ ap (λ t. turn_order place t (move.sets view)) c.laid_out-turn.ensures))

pub returns-clause-views : goal.returns-clause-views
returns-clause-views g c =
    let now = c.args.self.now in
    let place = c.in_ok-place.place in
    let move = layout_move {C = g.row.C.Denot} c.args.width c.args.height in
    let view = c.index_mut-known.result.now in
    views-by_name now _ c.args.view.now place move (found-is now c.self.inside.views.entries c.self.inside.paused c.args.view.now place c.self.view_is c.in_ok-place.ensures.index)
    (changed-is now c.self.inside.views.entries c.self.inside.paused place view c.take.new.self (moved move) c.self.view_is c.index_mut-known.ensures.value
    (c.take.ensures.view ∙ ap (λ t. after_turn t (move.sets view)) c.laid_out-turn.ensures))

pub returns-clause-place : goal.returns-clause-place
returns-clause-place g c =
    let now = c.args.self.now in
    let place = c.in_ok-place.place in
    let move = layout_move {C = g.row.C.Denot} c.args.width c.args.height in
    let view = c.index_mut-known.result.now in
    order-in now _ place move view c.take.result (view-is now c.self.inside.views.entries c.self.inside.paused place view c.self.view_is c.index_mut-known.ensures.value) (c.take.ensures.order ∙ ap (λ t. turn_order place t (move.sets view)) c.laid_out-turn.ensures)
    (changed-is now c.self.inside.views.entries c.self.inside.paused place view c.take.new.self (moved move) c.self.view_is c.index_mut-known.ensures.value (c.take.ensures.view ∙ ap (λ t. after_turn t (move.sets view)) c.laid_out-turn.ensures))

pub returns-clause-count : goal.returns-clause-count
returns-clause-count g c =
    let now = c.args.self.now in
    let place = c.in_ok-place.place in
    let move = layout_move {C = g.row.C.Denot} c.args.width c.args.height in
    let view = c.index_mut-known.result.now in
    count-changed now _ place (moved move) (changed-is now c.self.inside.views.entries c.self.inside.paused place view c.take.new.self (moved move) c.self.view_is c.index_mut-known.ensures.value (c.take.ensures.view ∙ ap (λ t. after_turn t (move.sets view)) c.laid_out-turn.ensures))
