use Rattle.state_machine.proofs.Histories.{begins}
use Rattle.state_machine.proofs.laws.legal_histories_begin.Goals as goal

pub returns : goal.returns
returns g c = begins g.M.Machine
