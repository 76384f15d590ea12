use Rattle.std.proofs.Common.{◌≡◌, sym, subst, false}
use Rattle.disk_table.specs.Table.{TableValue, is_under_edit}
use Rattle.disk_table.specs.inside.Kept.{AreKnown}
use Rattle.disk_table.proofs.Known.{known_without_key}
use Rattle.disk_table.proofs.table.DiskTable.forget.Goals as goal

pub invariant_of-self : goal.invariant_of-self
invariant_of-self c =
    let closed = subst (λ (t : TableValue). is_under_edit c.args.key.now t.edits ≡ false) (sym c.self.view_is) c.requires in
    subst (λ es. AreKnown es c.self.inside.edits) (sym c.forget.ensures.order) (known_without_key c.self.inside.order c.self.inside.edits c.args.key.now c.self.invariant closed)
