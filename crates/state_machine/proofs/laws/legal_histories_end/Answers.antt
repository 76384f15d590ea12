use Rattle.state_machine.proofs.Histories.{ends}
use Rattle.state_machine.proofs.laws.legal_histories_end.Goals as goal

pub returns : goal.returns
returns g c = ends g.M.Machine
