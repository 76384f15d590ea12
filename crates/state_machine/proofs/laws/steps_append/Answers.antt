use Rattle.state_machine.proofs.Histories.{parts, joins}
use Rattle.state_machine.proofs.laws.steps_append.Goals as goal

pub returns-clause-part : goal.returns-clause-part
returns-clause-part g c = parts g.M.Machine

pub returns-clause-join : goal.returns-clause-join
returns-clause-join g c = joins g.M.Machine
