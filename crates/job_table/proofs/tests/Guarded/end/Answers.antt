use Rattle.std.proofs.Common.{refl}
use Rattle.job_table.proofs.Guards.{found_is_live, room_ended}
use Rattle.job_table.proofs.tests.Guarded.end.Goals as goal

pub end-requires : goal.end-requires
end-requires c =
    found_is_live c.args.key.now c.args.cached c.self.inside.table.jobs c.in_ok-number.number ((c.in_ok-number.ensures.it c.in_ok-number.number).0 refl)

pub invariant_of-self : goal.invariant_of-self
invariant_of-self c = room_ended c.self.inside.table c.self.inside.added c.self.invariant _ _ c.end.ensures.gone
