use Rattle.std.proofs.Common.{◌≡◌, sym, ◌∙◌, subst, Some, false}
use Rattle.disk_table.specs.Table.{is_under_edit, key_of_edit, ended_with}
use Rattle.disk_table.specs.inside.Kept.{AreKnown}
use Rattle.disk_table.proofs.Known.{known_closed}
use Rattle.disk_table.proofs.table.DiskTable.close_edit.Goals as goal

pub invariant_of-self : goal.invariant_of-self
invariant_of-self c =
    let is : key_of_edit c.args.edit c.self.inside.edits ≡ Some c.in-Some.key = sym c.key_of.ensures.key ∙ c.in-Some.is in
    let free = subst (λ edits. is_under_edit c.in-Some.key edits ≡ false) c.close.ensures.edits (c.close.ensures.free c.in-Some.key is) in
    subst (λ es. AreKnown es c.close.new.self) (sym c.end_with.ensures)
    (subst (AreKnown (ended_with c.in-Some.key c.args.length c.self.inside.order)) (sym c.close.ensures.edits)
    (known_closed c.self.inside.order c.self.inside.edits c.in-Some.key c.args.edit c.args.length c.self.invariant free))
