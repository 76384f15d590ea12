use Rattle.script_walk.proofs.Agree.{ends_decide}
use Rattle.script_walk.proofs.laws.ends_decide_the_walk.Goals as goal

pub returns : goal.returns
returns c = ends_decide
