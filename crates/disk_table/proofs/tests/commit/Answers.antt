use Rattle.std.proofs.Common.{refl, sym, subst, ◌∙◌}
use Rattle.std.specs.Prelude.{IsSome}
use Rattle.disk_table.proofs.Numbers.{edit_open}
use Rattle.disk_table.proofs.tests.commit.Goals as goal

pub close_edit-requires-clause-open : goal.close_edit-requires-clause-open
close_edit-requires-clause-open c = subst IsSome (sym (edit_open c.args.key.now c.args.table.now.edits c.in-Some.edit (sym c.edit_of.ensures.number ∙ c.in-Some.is))) refl
