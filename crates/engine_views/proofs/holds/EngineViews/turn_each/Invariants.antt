use Rattle.std.proofs.Common.{◌≡◌, take}
use Rattle.request_tracker.specs.Moves.{act_move}
use Rattle.engine_views.specs.inside.Orders.{orders_of}
use Rattle.engine_views.proofs.Turning.{moved_to}
use Rattle.engine_views.proofs.holds.EngineViews.turn_each.Given as goal

abbrev pub invariant-loop-place : goal.invariant-loop-place
invariant-loop-place l =
    let move = act_move l.act in
    let views = l.fn.self.tracked.views in
    record {
      items : l.all.items ≡ take l.place (orders_of move views);
      tracked_is : l.self.tracked ≡ record l.fn.self.tracked { views = moved_to l.place move views };
      holds_are : l.self.holds ≡ l.fn.self.holds;
    }
