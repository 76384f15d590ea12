use Rattle.script_walk.proofs.Together.{begins_run_together}
use Rattle.script_walk.proofs.laws.begins_run_together.Goals as goal

pub returns : goal.returns
returns c = begins_run_together
