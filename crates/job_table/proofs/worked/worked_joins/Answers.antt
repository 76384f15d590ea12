use Rattle.job_table.proofs.Sorted.{joins-sorted}
use Rattle.job_table.proofs.worked.worked_joins.Goals as goal

pub returns-clause-waiting : goal.returns-clause-waiting
returns-clause-waiting c = joins-sorted _ _ _ tt

pub returns-clause-running : goal.returns-clause-running
returns-clause-running c = joins-sorted _ _ _ tt

pub returns-clause-other_kind : goal.returns-clause-other_kind
returns-clause-other_kind c = joins-sorted _ _ _ tt

pub returns-clause-cancelled : goal.returns-clause-cancelled
returns-clause-cancelled c = joins-sorted _ _ _ tt

pub returns-clause-beside : goal.returns-clause-beside
returns-clause-beside c = joins-sorted _ _ _ tt
