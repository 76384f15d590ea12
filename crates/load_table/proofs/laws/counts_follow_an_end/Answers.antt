use Rattle.load_table.proofs.Counts.{none_waits, others_wait, holders_join, owners_keep}
use Rattle.load_table.proofs.laws.counts_follow_an_end.Goals as goal

pub returns-clause-none_waits : goal.returns-clause-none_waits
returns-clause-none_waits g c job to loads = none_waits job to loads

pub returns-clause-others_wait : goal.returns-clause-others_wait
returns-clause-others_wait g c job other to loads ne = others_wait job other to loads ne

pub returns-clause-holders : goal.returns-clause-holders
returns-clause-holders g c job resource to loads = holders_join job resource to loads

pub returns-clause-owners : goal.returns-clause-owners
returns-clause-owners g c job owner to loads = owners_keep job owner to loads
