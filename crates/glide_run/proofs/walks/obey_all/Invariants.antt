use Rattle.std.proofs.Common.{◌≤◌}
use Rattle.script_lines.specs.Reading.{ahead}
use Rattle.glide_run.specs.inside.Obeys.{moment}
use Rattle.glide_run.proofs.SoFar.{SoFar}
use Rattle.glide_run.proofs.walks.obey_all.Given as goal

abbrev pub invariant-commands : goal.invariant-commands
invariant-commands g l = record {
  so_far : SoFar g.W.Sink g.S.Source (g.I.Input.left l.fn.input) (moment l.fn.out (g.E.EngineCalls.caller l.fn.engine) l.fn.source l.fn.views)
      (ahead l.reader (g.I.Input.left l.input)) l.troubles l.reader.room (moment l.out (g.E.EngineCalls.caller l.engine) l.source l.views);
  sink : g.W.Sink.faults l.fn.out ≤ g.W.Sink.faults l.out;
  input : g.I.Input.faults l.fn.input ≤ g.I.Input.faults l.input;
}

abbrev pub decreases-commands : goal.decreases-commands
decreases-commands g l = l.reader.room
