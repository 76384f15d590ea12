use Rattle.std.proofs.Common.{◌≡◌, ℕ, List, true, Some, None, IfSome, sym, ap, ◌∙◌}
use Rattle.std.specs.declared.option.Option.{Option}
use Rattle.disk_table.specs.UseOrder.{is_known}
use Rattle.disk_table.specs.Table.{edit_of, eldest_over}
use Rattle.cache_folder.specs.Tables.{CacheTableValue, kept}
use Rattle.cache_folder.proofs.Eldest.{over_is}
use Rattle.cache_folder.proofs.Kept.{known_kept}
use Rattle.cache_folder.proofs.table.CacheTable.eldest_over.Goals as goal

known_by : (maximum : ℕ) (t u : CacheTableValue) (o : Option (List ℕ)) → t ≡ u → o ≡ eldest_over maximum t.table → IfSome o (λ key. is_known key (kept u) ≡ true)
known_by maximum t u None same is = tt
known_by maximum t u (Some key) same is = sym (ap (λ (v : CacheTableValue). is_known key (kept v)) same) ∙ known_kept t key ∙ (over_is maximum t.table (Some key) is).0

closed_by : (maximum : ℕ) (t u : CacheTableValue) (o : Option (List ℕ)) → t ≡ u → o ≡ eldest_over maximum t.table → IfSome o (λ key. edit_of key u.table.edits ≡ None)
closed_by maximum t u None same is = tt
closed_by maximum t u (Some key) same is = sym (ap (λ (v : CacheTableValue). edit_of key v.table.edits) same) ∙ (over_is maximum t.table (Some key) is).1

pub returns-clause-known : goal.returns-clause-known
returns-clause-known c = known_by c.args.maximum (record { table = c.self.inside.table; written = c.self.inside.written }) c.args.self.now c.eldest_over.result c.self.view_is c.eldest_over.ensures

pub returns-clause-closed : goal.returns-clause-closed
returns-clause-closed c = closed_by c.args.maximum (record { table = c.self.inside.table; written = c.self.inside.written }) c.args.self.now c.eldest_over.result c.self.view_is c.eldest_over.ensures
