use Rattle.std.proofs.Common.{◌≡◌, length}
use Rattle.script_walk.specs.Walk.{Outcome, Stage}
use Rattle.engine_views.specs.Held.{loads_in}
use Rattle.engine_views.specs.Owner.{HasJust}
use Rattle.engine_views.specs.Following.{standing, Follows}
use Rattle.engine_views.specs.inside.Collects.{outcome_now, AreGatheredTo}
use Rattle.engine_views.proofs.holds.EngineViews.gather.Given as goal

abbrev pub invariant-loop-place : goal.invariant-loop-place
invariant-loop-place g l =
    let caller = g.E.EngineCalls.caller in
    let first = caller l.initial.engine in
    record {
      count : length l.self.holds ≡ length l.fn.self.holds;
      size : length l.fn.self.holds ≡ length l.fn.self.tracked.views;
      just : HasJust (caller l.engine) (loads_in l.self.holds);
      gathered : (outcome : Outcome) (s : Stage) → Follows outcome s (standing (caller l.fn.engine) l.fn.self)
          → AreGatheredTo l.place (outcome_now s.gathers first outcome) s first (standing (caller l.engine) l.self);
    }
