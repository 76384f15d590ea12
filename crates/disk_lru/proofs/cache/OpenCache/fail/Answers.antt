use Rattle.std.proofs.Common.{refl}
use Rattle.cache_folder.specs.Tables.{kept}
use Rattle.disk_lru.proofs.Fields.{keeps_forgotten, forgets_by}
use Rattle.disk_lru.proofs.cache.OpenCache.fail.Goals as goal

pub invariant_of-self : goal.invariant_of-self
invariant_of-self g c = keeps_forgotten c.calls_keep_others.ensures c.args.key.now (g.F.Files.history c.self.inside.files) (kept c.self.inside.table) c.forget.new.self c.self.invariant.files c.forget.ensures.kept

pub returns-clause-forgets : goal.returns-clause-forgets
returns-clause-forgets g c = forgets_by _ _ _ c.args.key.now c.self.view_is c.forget.ensures.kept c.forget.ensures.edits c.forget.ensures.closed c.forget.ensures.others refl
