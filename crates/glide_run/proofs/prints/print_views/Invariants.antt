use Rattle.std.proofs.Common.{◌≤◌}
use Rattle.script_walk.specs.Walk.{Outcome, Stage}
use Rattle.engine_views.specs.Following.{standing, Follows, IsOnWalk}
use Rattle.glide_run.specs.inside.Prints.{printer}
use Rattle.glide_run.proofs.Views.{PrintedTo}
use Rattle.glide_run.proofs.prints.print_views.Given as goal

abbrev pub invariant-loop-place : goal.invariant-loop-place
invariant-loop-place g l = record {
  prints : (outcome : Outcome) (s : Stage) → Follows outcome s (standing (g.E.EngineCalls.caller l.fn.engine) l.views)
      → PrintedTo g.W.Sink l.views outcome s.views l.place l.failing (printer l.fn.out (g.E.EngineCalls.caller l.fn.engine)) (printer l.out (g.E.EngineCalls.caller l.engine));
  on_walk : IsOnWalk (standing (g.E.EngineCalls.caller l.engine) l.views);
  later : g.W.Sink.faults l.fn.out ≤ g.W.Sink.faults l.out;
}
