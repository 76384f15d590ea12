use Rattle.std.proofs.Common.{refl, sym, ◌∙◌}
use Rattle.std.specs.Prelude.{IsSome}
use Rattle.std.specs.FinMap.{get}
use Rattle.job_table.proofs.Guards.{found_is_live, marked_is_live, room_cancelled}
use Rattle.job_table.proofs.tests.Guarded.cancel_running.Goals as goal

pub cancel-requires : goal.cancel-requires
cancel-requires c =
    found_is_live c.args.key.now c.args.cached c.self.inside.table.jobs c.in_ok-number.number ((c.in_ok-number.ensures.it c.in_ok-number.number).0 refl)

pub invariant_of-self : goal.invariant_of-self
invariant_of-self c = room_cancelled c.self.inside.table c.self.inside.added c.self.invariant _ _ c.cancel.ensures.cancelled

pub is_cancelled-requires : goal.is_cancelled-requires
is_cancelled-requires c =
    let live : IsSome (get c.self.inside.table.jobs c.in_ok-number.number) =
    found_is_live c.args.key.now c.args.cached c.self.inside.table.jobs c.in_ok-number.number ((c.in_ok-number.ensures.it c.in_ok-number.number).0 refl) in
    marked_is_live c.self.inside.table c.cancel.new.self c.in_ok-number.number c.cancel.ensures.cancelled (sym c.cancel.ensures.queued ∙ c.if-cancel.false) live

pub invariant_of-self-2 : goal.invariant_of-self-2
invariant_of-self-2 c = room_cancelled c.self.inside.table c.self.inside.added c.self.invariant _ _ c.cancel.ensures.cancelled
