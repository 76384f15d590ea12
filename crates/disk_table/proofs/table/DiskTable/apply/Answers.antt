use Rattle.std.proofs.Common.{◌≡◌, sym, subst, false}
use Rattle.disk_table.specs.Table.{TableValue, is_under_edit, key_in, replayed}
use Rattle.disk_table.specs.inside.Kept.{AreKnown}
use Rattle.disk_table.proofs.Known.{known_replayed, known_if}
use Rattle.disk_table.proofs.table.DiskTable.apply.Goals as goal

pub invariant_of-self-2 : goal.invariant_of-self-2
invariant_of-self-2 c =
    let closed = subst (λ (t : TableValue). is_under_edit (key_in c.args.line.now) t.edits ≡ false) (sym c.self.view_is) c.requires.closed in
    subst (λ es. AreKnown es c.self.inside.edits) (sym c.in_ok-replay.ensures.order)
    (known_if c.self.inside.order (replayed c.self.inside.order c.args.line.now) c.self.inside.edits c.in_ok-replay.field-0 c.self.invariant (known_replayed c.self.inside.order c.self.inside.edits c.args.line.now c.self.invariant closed))
