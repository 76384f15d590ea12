use Rattle.std.proofs.Common.{sym, ap, ◌∙◌}
use Rattle.disk_table.specs.UseOrder.{is_known}
use Rattle.cache_folder.specs.Tables.{CacheTableValue, kept}
use Rattle.cache_folder.proofs.Kept.{known_kept}
use Rattle.cache_folder.proofs.table.CacheTable.knows.Goals as goal

pub returns : goal.returns
returns c = c.knows.ensures ∙ sym (known_kept (record { table = c.self.inside.table; written = c.self.inside.written }) c.args.key.now) ∙ ap (λ (t : CacheTableValue). is_known c.args.key.now (kept t)) c.self.view_is
