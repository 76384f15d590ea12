use Rattle.load_table.proofs.Counts.{one_more, one_less}
use Rattle.load_table.proofs.laws.counts_follow_one_load.Goals as goal

pub returns-clause-added : goal.returns-clause-added
returns-clause-added g c p loads name state none = one_more p loads name state none

pub returns-clause-removed : goal.returns-clause-removed
returns-clause-removed g c p loads name state there = one_less p loads name state there
