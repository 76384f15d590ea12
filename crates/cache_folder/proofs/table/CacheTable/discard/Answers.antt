use Rattle.std.proofs.Common.{ap, ◌∙◌}
use Rattle.disk_table.specs.UseOrder.{without}
use Rattle.disk_table.specs.Table.{TableValue}
use Rattle.cache_folder.specs.Tables.{CacheTableValue}
use Rattle.cache_folder.proofs.Staying.{entries_forgotten}
use Rattle.cache_folder.proofs.table.CacheTable.discard.Goals as goal

pub returns-clause-entries : goal.returns-clause-entries
returns-clause-entries c = ap (λ (t : TableValue). t.entries) c.forget.ensures
    ∙ entries_forgotten c.args.key.now c.self.inside.table ∙ ap (λ (t : CacheTableValue). without c.args.key.now t.table.entries) c.self.view_is
