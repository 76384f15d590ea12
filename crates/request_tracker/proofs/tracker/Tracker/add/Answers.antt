use Rattle.std.proofs.Common.{◌∙◌}
use Rattle.request_tracker.specs.Table.{after_turn}
use Rattle.request_tracker.specs.Moves.{new_view}
use Rattle.request_tracker.proofs.Places.{added-is}
use Rattle.request_tracker.proofs.tracker.Tracker.add.Goals as goal

pub returns-clause-views : goal.returns-clause-views
returns-clause-views g c =
    added-is c.args.self.now c.self.inside.views.entries c.insert.new.self.entries c.self.inside.paused c.args.view.now c.in_ok-new.field-0 (after_turn c.args.turn (new_view c.args.ask)) c.take-order.new.self c.self.view_is c.requires.new
    c.in_ok-insert.ensures.entries (c.in_ok-new.ensures ∙ c.bytes.ensures) c.take-order.ensures.view
