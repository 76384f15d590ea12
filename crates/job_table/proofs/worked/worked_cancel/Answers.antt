use Rattle.std.proofs.Common.{refl}
use Rattle.job_table.proofs.Sorted.{queued-cancelled, running-cancelled}
use Rattle.job_table.proofs.worked.worked_cancel.Goals as goal

pub returns-clause-queued : goal.returns-clause-queued
returns-clause-queued c = queued-cancelled _ 1 2 _ tt refl refl

pub returns-clause-running : goal.returns-clause-running
returns-clause-running c = running-cancelled _ 0 1 _ tt refl refl
