use Rattle.std.proofs.Common.{◌≡◌, List, ℕ, Some, None, true, IsSome, is_some, sym, ap, ◌∙◌}
use Rattle.std.specs.declared.option.Option.{Option}
use Rattle.disk_table.specs.Table.{edit_of}
use Rattle.disk_table.specs.UseOrder.{is_known}
use Rattle.cache_folder.specs.Tables.{CacheTableValue, kept, edit_at}
use Rattle.cache_folder.proofs.Kept.{edit_none, edit_some}
use Rattle.cache_folder.proofs.table.CacheTable.edit_of.Goals as goal

pub returns-clause-none : goal.returns-clause-none
returns-clause-none c = λ none. ap (λ (t : CacheTableValue). edit_at c.args.key.now (kept t)) (sym c.self.view_is)
    ∙ edit_none c.self.inside.table.edits c.self.inside.written c.args.key.now c.self.inside.table.entries (sym c.edit_of.ensures.number ∙ none)

number_some : (t u : CacheTableValue) (key : List ℕ) (o : Option ℕ) → t ≡ u → o ≡ edit_of key t.table.edits → (IsSome o → is_known key t.table.entries ≡ true) → IsSome o → IsSome (edit_at key (kept u))
number_some t u key None same is known some = cc
number_some t u key (Some n) same is known some = ap is_some (ap (λ (x : CacheTableValue). edit_at key (kept x)) (sym same) ∙ edit_some t.table.edits t.written key t.table.entries n (sym is) (known some))

pub returns-clause-some : goal.returns-clause-some
returns-clause-some c = number_some (record { table = c.self.inside.table; written = c.self.inside.written }) c.args.self.now c.args.key.now c.edit_of.result c.self.view_is c.edit_of.ensures.number c.edit_of.ensures.known
