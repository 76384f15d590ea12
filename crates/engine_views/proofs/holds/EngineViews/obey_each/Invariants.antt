use Rattle.std.proofs.Common.{◌≡◌, length}
use Rattle.load_cause.specs.declared.causes.Cause.{Cause}
use Rattle.request_tracker.specs.Moves.{Move}
use Rattle.script_walk.specs.Walk.{Outcome, Stage}
use Rattle.script_walk.specs.Tracked.{tracked}
use Rattle.engine_views.specs.Following.{standing}
use Rattle.engine_views.specs.inside.Orders.{orders_of, Stands, KeepsStates}
use Rattle.engine_views.proofs.Steps.{HasObeyedTo}
use Rattle.engine_views.proofs.holds.EngineViews.obey_each.Given as goal

abbrev pub invariant-loop-turned : goal.invariant-loop-turned
invariant-loop-turned g l =
    let caller = g.E.EngineCalls.caller in
    let old = standing (caller l.fn.engine) l.fn.self in
    record {
      tracked_is : l.self.tracked ≡ l.fn.self.tracked;
      obeyed : (outcome : Outcome) (s : Stage) (move : Move Cause) → KeepsStates move → Stands outcome s old
          → l.fn.all.items ≡ orders_of move (tracked s).views
          → HasObeyedTo (length l.yielded) outcome s move old (standing (caller l.engine) l.self);
    }
