use Rattle.job_table.proofs.Looking.{next-sorted}
use Rattle.job_table.proofs.worked.worked_queue.Goals as goal

pub returns-clause-first : goal.returns-clause-first
returns-clause-first c = next-sorted _ tt

pub returns-clause-then : goal.returns-clause-then
returns-clause-then c = next-sorted _ tt

pub returns-clause-no_more : goal.returns-clause-no_more
returns-clause-no_more c = next-sorted _ tt

pub returns-clause-equal : goal.returns-clause-equal
returns-clause-equal c = next-sorted _ tt

pub returns-clause-at_once : goal.returns-clause-at_once
returns-clause-at_once c = next-sorted _ tt
