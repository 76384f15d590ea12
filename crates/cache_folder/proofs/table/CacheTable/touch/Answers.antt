use Rattle.std.proofs.Common.{sym, ap, ◌∙◌}
use Rattle.disk_table.specs.UseOrder.{is_known, used}
use Rattle.disk_table.specs.Table.{TableValue, counted}
use Rattle.cache_folder.specs.Tables.{CacheTableValue, kept}
use Rattle.cache_folder.proofs.Kept.{known_kept, touched_after, touched_lines}
use Rattle.cache_folder.proofs.table.CacheTable.touch.Goals as goal

pub returns-clause-kept : goal.returns-clause-kept
returns-clause-kept c = ap (λ (t : TableValue). kept (record { table = t; written = c.self.inside.written })) c.touch.ensures
    ∙ touched_after c.self.inside.table c.self.inside.written c.args.key.now ∙ ap (λ (t : CacheTableValue). used c.args.key.now (kept t)) c.self.view_is

pub returns-clause-lines : goal.returns-clause-lines
returns-clause-lines c = λ known. ap (λ (t : TableValue). t.lines) c.touch.ensures
    ∙ touched_lines c.self.inside.table c.args.key.now (sym (known_kept (record { table = c.self.inside.table; written = c.self.inside.written }) c.args.key.now) ∙ ap (λ (t : CacheTableValue). is_known c.args.key.now (kept t)) c.self.view_is ∙ known)
    ∙ ap (λ (t : CacheTableValue). counted t.table.lines) c.self.view_is
