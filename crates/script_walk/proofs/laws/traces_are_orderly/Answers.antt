use Rattle.script_walk.proofs.Orderly.{traces_are_orderly}
use Rattle.script_walk.proofs.laws.traces_are_orderly.Goals as goal

pub returns : goal.returns
returns c = traces_are_orderly
