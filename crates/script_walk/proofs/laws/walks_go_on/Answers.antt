use Rattle.script_walk.proofs.BadCommands.{walks_go_on}
use Rattle.script_walk.proofs.laws.walks_go_on.Goals as goal

pub returns : goal.returns
returns c = walks_go_on
