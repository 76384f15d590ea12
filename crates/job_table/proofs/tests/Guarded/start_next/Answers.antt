use Rattle.std.proofs.Common.{refl}
use Rattle.job_table.proofs.Guards.{next_is_queued, room_changed}
use Rattle.job_table.proofs.tests.Guarded.start_next.Goals as goal

pub start-requires : goal.start-requires
start-requires c = next_is_queued c.self.inside.table.jobs c.in_ok-number.number ((c.in_ok-number.ensures.it c.in_ok-number.number).0 refl)

pub invariant_of-self : goal.invariant_of-self
invariant_of-self c = room_changed c.self.inside.table c.self.inside.added c.self.invariant _ _ _ c.start.ensures.started
