use Rattle.std.proofs.Common.{ap, ◌∙◌, arith}
use Rattle.disk_table.specs.Table.{edit_of}
use Rattle.cache_folder.specs.Tables.{CacheTableValue, kept, grown_edit}
use Rattle.cache_folder.proofs.Kept.{grown_kept}
use Rattle.std.proofs.lemmas.List.{length-set}
use Rattle.std.proofs.Common.{◌^◌, ◌<◌}
use Rattle.cache_folder.proofs.Lists.{all_set}
use Rattle.cache_folder.proofs.table.CacheTable.grow.Goals as goal

pub returns-clause-kept : goal.returns-clause-kept
returns-clause-kept c =
    grown_kept c.self.inside.table.entries c.self.inside.table.edits c.self.inside.written c.args.key.now c.args.number c.args.length
    (ap (λ (t : CacheTableValue). edit_of c.args.key.now t.table.edits) c.self.view_is ∙ c.requires.open) (omega (arith, c.self.invariant.0, c.requires.within))
    ∙ ap (λ (t : CacheTableValue). grown_edit c.args.key.now c.args.length (kept t)) c.self.view_is

pub invariant_of-self : goal.invariant_of-self
invariant_of-self c = (length-set c.self.inside.written c.args.number c.args.length ∙ c.self.invariant.0, all_set (λ n. n < 2 ^ 40) c.self.inside.written c.args.number c.args.length c.requires.short c.self.invariant.1)
