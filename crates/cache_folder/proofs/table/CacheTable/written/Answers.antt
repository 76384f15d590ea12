use Rattle.std.proofs.Common.{◌<◌, ◌^◌, arith, refl, sym, ap, ◌∙◌}
use Rattle.cache_folder.specs.Tables.{CacheTableValue, kept, edit_at}
use Rattle.cache_folder.proofs.Lists.{all_at}
use Rattle.cache_folder.proofs.Kept.{edit_none, edit_some}
use Rattle.cache_folder.proofs.table.CacheTable.written.Goals as goal

pub returns-in-Some-clause-written : goal.returns-in-Some-clause-written
returns-in-Some-clause-written c = sym (edit_some c.self.inside.table.edits c.self.inside.written c.args.key.now c.self.inside.table.entries c.in-Some.number (sym c.edit_of.ensures.number ∙ c.in-Some.is) (c.in-Some.ensures.known refl))
    ∙ ap (λ (t : CacheTableValue). edit_at c.args.key.now (kept t)) c.self.view_is

pub returns-in-None-clause-written : goal.returns-in-None-clause-written
returns-in-None-clause-written c = sym (edit_none c.self.inside.table.edits c.self.inside.written c.args.key.now c.self.inside.table.entries (sym c.edit_of.ensures.number ∙ c.in-None.is))
    ∙ ap (λ (t : CacheTableValue). edit_at c.args.key.now (kept t)) c.self.view_is

pub returns-in-Some-clause-short : goal.returns-in-Some-clause-short
returns-in-Some-clause-short c = all_at (λ n. n < 2 ^ 40) 0 c.self.inside.written c.in-Some.number c.self.invariant.1 (omega (arith, c.in-Some.ensures.within, c.self.invariant.0))
