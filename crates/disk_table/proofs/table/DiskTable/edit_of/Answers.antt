use Rattle.std.proofs.Common.{◌≡◌, ℕ, List, Some, None, true, IsSome, sym, subst, ◌∙◌, ap}
use Rattle.std.specs.Prelude.{IfSome}
use Rattle.std.specs.declared.option.Option.{Option}
use Rattle.disk_table.specs.UseOrder.{is_known}
use Rattle.disk_table.specs.Table.{TableValue, edit_of, key_of_edit}
use Rattle.disk_table.specs.inside.Kept.{AreKnown}
use Rattle.disk_table.proofs.Known.{edit_known}
use Rattle.disk_table.proofs.Numbers.{edit_open}
use Rattle.disk_table.proofs.table.DiskTable.edit_of.Goals as goal

some_known : (t : TableValue) (key : List ℕ) (o : Option ℕ) → AreKnown t.entries t.edits → o ≡ edit_of key t.edits → IsSome o → is_known key t.entries ≡ true
some_known t key None known is some = cc
some_known t key (Some n) known is some = edit_known t.entries t.edits key n known (sym is)

pub returns-clause-known : goal.returns-clause-known
returns-clause-known c = λ some. sym (ap (λ (t : TableValue). is_known c.args.key.now t.entries) c.self.view_is) ∙ some_known (record { entries = c.self.inside.order; edits = c.self.inside.edits; lines = c.self.inside.lines }) c.args.key.now c.of.result c.self.invariant c.of.ensures.number some

has_key : (t : TableValue) (key : List ℕ) (o : Option ℕ) → o ≡ edit_of key t.edits → IfSome o (λ n. key_of_edit n t.edits ≡ Some key)
has_key t key None is = tt
has_key t key (Some n) is = edit_open key t.edits n (sym is)

pub returns-clause-key : goal.returns-clause-key
returns-clause-key c =
    subst (λ (t : TableValue). IfSome c.of.result (λ n. key_of_edit n t.edits ≡ Some c.args.key.now)) c.self.view_is
    (has_key (record { entries = c.self.inside.order; edits = c.self.inside.edits; lines = c.self.inside.lines }) c.args.key.now c.of.result c.of.ensures.number)
