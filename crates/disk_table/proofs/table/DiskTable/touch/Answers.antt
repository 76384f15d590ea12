use Rattle.std.proofs.Common.{sym, subst}
use Rattle.std.specs.Prelude.{IsSome}
use Rattle.disk_table.specs.UseOrder.{value_at}
use Rattle.disk_table.proofs.Entries.{known_used}
use Rattle.disk_table.proofs.table.DiskTable.touch.Goals as goal

pub invariant_of-self : goal.invariant_of-self
invariant_of-self c other number at = subst (λ es. IsSome (value_at other es)) (sym c.touch.ensures.order) (known_used other c.args.key.now c.self.inside.order (c.self.invariant other number at))
