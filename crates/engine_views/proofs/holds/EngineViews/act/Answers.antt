use Rattle.std.proofs.Common.{◌≡◌, ◌≤◌, length, map, refl, ap, ◌∙◌}
use Rattle.load_cause.specs.declared.causes.Cause.{Cause}
use Rattle.request_tracker.specs.Limits.{views_limit}
use Rattle.request_tracker.specs.Moves.{Tracked, moved, act_move}
use Rattle.script_walk.specs.Walk.{Stage}
use Rattle.script_walk.specs.Tracked.{tracked}
use Rattle.engine_views.specs.Held.{Held}
use Rattle.engine_views.specs.Following.{standing}
use Rattle.engine_views.specs.inside.Orders.{orders_of, paused_after, Stands, HasObeyedAll}
use Rattle.engine_views.proofs.Staying.{within_limit}
use Rattle.engine_views.proofs.Moving.{stands_of, stands_beside, acts_moved}
use Rattle.engine_views.proofs.holds.EngineViews.act.Goals as goal

pub returns-clause-moves : goal.returns-clause-moves
returns-clause-moves g c outcome s follows =
    let caller = g.E.EngineCalls.caller in
    let act = c.args.act in
    let move = act_move {C = Cause} act in
    let old = standing (caller c.args.engine.now) c.args.self.now in
    let mid = standing (caller c.args.engine.now) c.turn_each.new.self in
    let new = standing (caller c.obey_each.new.engine) c.obey_each.new.self in
    let set : Stage = record s { paused = paused_after act s.paused } in
    let within : length s.views ≤ views_limit = within_limit (caller c.args.engine.now) outcome s.views (record { tracked = c.self.inside.tracker; holds = c.self.inside.holds.items }) c.args.self.now c.self.invariant.1 c.self.view_is follows.holds in
    let here : Stands outcome s mid = stands_beside outcome s (caller c.args.engine.now) c.args.self.now c.turn_each.new.self (c.turn_each.ensures.holds ∙ ap (λ (h : Held). h.holds) c.pause_for.ensures) (stands_of outcome s old follows) in
    let stands : Stands outcome set mid = record { just = here.just; begun = here.begun; begins = here.begins; holds = here.holds } in
    let same : c.pause_for.new.self.tracked.views ≡ (tracked s).views = ap (λ (h : Held). h.tracked.views) c.pause_for.ensures ∙ ap (λ (t : Tracked Cause). t.views) follows.tracked_is in
    let all_is : c.in_ok-all.all.items ≡ orders_of move (tracked set).views = c.in_ok-all.ensures.orders ∙ ap (orders_of move) same in
    let obeyed : HasObeyedAll outcome set move mid new = c.obey_each.ensures.obeys outcome set move (λ view. refl) stands all_is in
    let all : HasObeyedAll outcome set move old new = record { stands = obeyed.stands; adds = obeyed.adds; no_job = obeyed.no_job; few = obeyed.few } in
    acts_moved c.moves_go_by_place.ensures c.a_tracker_makes_the_moves.ensures act outcome s old new follows within all
    (c.obey_each.ensures.tracked ∙ c.in_ok-all.ensures.tracked
    ∙ ap (λ (h : Held). let t : Tracked Cause = record h.tracked { views = map (λ view. (view.0, moved move view.1)) h.tracked.views } in t) c.pause_for.ensures)
