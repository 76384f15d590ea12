use Rattle.job_table.proofs.Guards.{room_new}
use Rattle.job_table.proofs.tests.Guarded.new.Goals as goal

pub invariant_of-result : goal.invariant_of-result
invariant_of-result c = room_new _ c.in_ok-new.ensures
