use Rattle.state_machine.proofs.Histories.{grows}
use Rattle.state_machine.proofs.laws.legal_histories_grow.Goals as goal

pub returns : goal.returns
returns g c = grows g.M.Machine
