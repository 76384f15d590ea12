use Rattle.glide_run.proofs.Commands.{trims}
use Rattle.glide_run.proofs.obeys.trim.Goals as goal

pub returns : goal.returns
returns g c = λ held walk. trims c.quiet_calls_leave_views.ensures.quiet c.args.level (g.E.EngineCalls.caller c.args.engine.now) (g.E.EngineCalls.caller c.trim.new.self) held walk c.trim.ensures.entry
