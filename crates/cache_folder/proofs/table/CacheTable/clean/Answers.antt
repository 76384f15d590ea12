use Rattle.std.proofs.Common.{sym, ap, ◌∙◌}
use Rattle.cache_folder.specs.Tables.{CacheTableValue, kept, len_at}
use Rattle.cache_folder.proofs.Kept.{len_kept}
use Rattle.cache_folder.proofs.table.CacheTable.clean.Goals as goal

pub returns-clause-length : goal.returns-clause-length
returns-clause-length c = c.clean.ensures.length ∙ sym (len_kept c.self.inside.table.edits c.self.inside.written c.args.key.now c.self.inside.table.entries) ∙ ap (λ (t : CacheTableValue). len_at c.args.key.now (kept t)) c.self.view_is
