use Rattle.state_machine.proofs.Histories.{own-append}
use Rattle.state_machine.proofs.laws.own_entries_append.Goals as goal

pub returns : goal.returns
returns g c = own-append
