use Rattle.std.proofs.Common.{reverse}
use Rattle.engine_views.specs.Held.{loads_in}
use Rattle.engine_views.specs.inside.Releasing.{AreReleasedTo}
use Rattle.engine_views.proofs.holds.EngineViews.close.Given as goal

abbrev pub invariant-holds : goal.invariant-holds
invariant-holds g l =
    let caller = g.E.EngineCalls.caller in
    AreReleasedTo (loads_in l.fn.self.holds) (loads_in (reverse l.holds.items)) (caller l.fn.engine) (caller l.engine)

abbrev pub decreases-holds : goal.decreases-holds
decreases-holds g l = goal.left-holds g l
