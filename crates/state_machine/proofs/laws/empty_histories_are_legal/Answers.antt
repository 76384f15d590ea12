use Rattle.state_machine.proofs.Histories.{empty}
use Rattle.state_machine.proofs.laws.empty_histories_are_legal.Goals as goal

pub returns : goal.returns
returns g c = empty g.M.Machine
