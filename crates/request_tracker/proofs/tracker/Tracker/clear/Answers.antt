use Rattle.std.proofs.Common.{Some}
use Rattle.request_tracker.specs.Moves.{clear_move, moved}
use Rattle.request_tracker.proofs.Places.{changed-is, view-is, order-is, found-is, order-by_name, views-by_name, order-in, count-changed}
use Rattle.request_tracker.proofs.tracker.Tracker.clear.Goals as goal

pub returns-clause-order : goal.returns-clause-order
returns-clause-order g c =
    let now = c.args.self.now in
    let place = c.in_ok-place.place in
    let move = clear_move {C = g.row.C.Denot} in
    let view = c.index_mut.result.now in
    order-by_name now c.args.view.now place move (Some c.take.result) (found-is now c.self.inside.views.entries c.self.inside.paused c.args.view.now place c.self.view_is c.in_ok-place.ensures.index)
    (order-is now place move view c.take.result (view-is now c.self.inside.views.entries c.self.inside.paused place view c.self.view_is c.index_mut.ensures.value) c.take.ensures.order)

pub returns-clause-views : goal.returns-clause-views
returns-clause-views g c =
    let now = c.args.self.now in
    let place = c.in_ok-place.place in
    let move = clear_move {C = g.row.C.Denot} in
    let view = c.index_mut.result.now in
    views-by_name now _ c.args.view.now place move (found-is now c.self.inside.views.entries c.self.inside.paused c.args.view.now place c.self.view_is c.in_ok-place.ensures.index)
    (changed-is now c.self.inside.views.entries c.self.inside.paused place view c.take.new.self (moved move) c.self.view_is c.index_mut.ensures.value c.take.ensures.view)

pub returns-clause-place : goal.returns-clause-place
returns-clause-place g c =
    let now = c.args.self.now in
    let place = c.in_ok-place.place in
    let move = clear_move {C = g.row.C.Denot} in
    let view = c.index_mut.result.now in
    order-in now _ place move view c.take.result (view-is now c.self.inside.views.entries c.self.inside.paused place view c.self.view_is c.index_mut.ensures.value) c.take.ensures.order
    (changed-is now c.self.inside.views.entries c.self.inside.paused place view c.take.new.self (moved move) c.self.view_is c.index_mut.ensures.value c.take.ensures.view)

pub returns-clause-count : goal.returns-clause-count
returns-clause-count g c =
    let now = c.args.self.now in
    let place = c.in_ok-place.place in
    let move = clear_move {C = g.row.C.Denot} in
    let view = c.index_mut.result.now in
    count-changed now _ place (moved move) (changed-is now c.self.inside.views.entries c.self.inside.paused place view c.take.new.self (moved move) c.self.view_is c.index_mut.ensures.value c.take.ensures.view)
