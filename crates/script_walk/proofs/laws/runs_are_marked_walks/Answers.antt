use Rattle.script_walk.proofs.Realize.{runs_are_walks}
use Rattle.script_walk.proofs.laws.runs_are_marked_walks.Goals as goal

pub returns : goal.returns
returns c = runs_are_walks
