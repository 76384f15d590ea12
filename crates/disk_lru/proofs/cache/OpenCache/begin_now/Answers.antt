use Rattle.std.proofs.Common.{refl, sym, ap, subst, ◌∙◌, is_ok}
use Rattle.cache_folder.specs.Steps.{Doubt, stepped}
use Rattle.cache_folder.specs.Images.{IfKnown}
use Rattle.cache_folder.specs.Tables.{CacheTableValue, kept, begun, closed_at}
use Rattle.cache_folder.specs.Sound.{Ways, Done, listed}
use Rattle.disk_table.specs.UseOrder.{without}
use Rattle.disk_table.specs.Table.{edit_of}
use Rattle.disk_lru.specs.State.{CacheState, edits}
use Rattle.disk_lru.specs.Calls.{begin_steps}
use Rattle.disk_lru.proofs.Runs.{run_has}
use Rattle.disk_lru.proofs.Begun.{without_newest}
use Rattle.disk_lru.proofs.Fields.{keeps_failed, keeps_forgotten, took_by, fails_by, fails_early}
use Rattle.disk_lru.proofs.cache.OpenCache.begin_now.Goals as goal

pub returns-in-Ok-begin-clause-empty : goal.returns-in-Ok-begin-clause-empty
returns-in-Ok-begin-clause-empty g c = λ ok k e. let m = c.begin-in-Ok.ensures.known k e in c.begin-in-Ok.ensures.empty (ap is_ok c.in-Ok-begin.is) m.0 m.1 k e

pub returns-in-Ok-begin-clause-took : goal.returns-in-Ok-begin-clause-took
returns-in-Ok-begin-clause-took g c = λ ok. took_by c.calls_keep_others.ensures _ _ _ c.args.key.now (begin_steps c.args.key.now) c.self.view_is c.begin-in-Ok.ensures.known
    (subst (λ (t : CacheTableValue). Ways c.args.key.now (kept t) (λ f. Doubt c.args.key.now) (g.F.Files.history c.self.inside.files) (g.F.Files.history c.begin-in-Ok.new.files)) c.of-before.ensures c.begin-in-Ok.ensures.ways)
    _ c.in-Ok.ensures.kept (λ h e any same. c.calls_keep_others.ensures.length_begun any c.args.key.now _ _ same)
    (subst (λ (t : CacheTableValue). IfKnown (g.F.Files.history c.self.inside.files) (λ h. Done (g.F.Files.history c.begin-in-Ok.new.files) (begun c.args.key.now (kept t)) (stepped (listed h.held (kept t)) (Doubt c.args.key.now)))) c.of-before.ensures (c.begin-in-Ok.ensures.ok (ap is_ok c.in-Ok-begin.is)))

pub invariant_of-self-in-Err-begin : goal.invariant_of-self-in-Err-begin
invariant_of-self-in-Err-begin g c = keeps_failed c.calls_keep_others.ensures c.args.key.now (g.F.Files.history c.self.inside.files) (g.F.Files.history c.begin-in-Ok.new.files) (kept c.self.inside.table) c.forget.new.self c.begin-in-Ok.ensures.known c.self.invariant.files
    (λ h e k e'. (run_has _ h k (g.F.Files.history c.begin-in-Ok.new.files) (c.begin-in-Ok.ensures.ways h e) e').1)
    (c.forget.ensures.kept ∙ ap (without c.args.key.now) c.in-Ok.ensures.kept ∙ without_newest c.args.key.now _ (kept c.self.inside.table))

pub invariant_of-self-in-Err : goal.invariant_of-self-in-Err
invariant_of-self-in-Err g c = keeps_forgotten c.calls_keep_others.ensures c.args.key.now (g.F.Files.history c.self.inside.files) (kept c.self.inside.table) c.forget-in-Err.new.self c.self.invariant.files
    (c.forget-in-Err.ensures.kept ∙ ap (λ (t : CacheTableValue). without c.args.key.now (kept t)) c.in-Err.ensures.err)

pub returns-in-Ok-clause-fails : goal.returns-in-Ok-clause-fails
returns-in-Ok-clause-fails g c = λ failed. fails_by c.calls_keep_others.ensures _ _ _ c.args.key.now (begin_steps c.args.key.now) c.self.view_is c.begin-in-Ok.ensures.known
    (subst (λ (t : CacheTableValue). Ways c.args.key.now (kept t) (λ f. Doubt c.args.key.now) (g.F.Files.history c.self.inside.files) (g.F.Files.history c.begin-in-Ok.new.files)) c.of-before.ensures c.begin-in-Ok.ensures.ways)
    (c.forget.ensures.kept ∙ ap (without c.args.key.now) c.in-Ok.ensures.kept ∙ without_newest c.args.key.now _ (kept c.self.inside.table))
    (c.forget.ensures.edits ∙ ap (λ o. closed_at o c.begin.new.self.table.edits) c.in-Ok.ensures.open ∙ c.in-Ok.ensures.back
    ∙ sym (ap (λ o. closed_at o c.self.inside.table.table.edits) (ap (λ (s : CacheState). edit_of c.args.key.now (edits s)) c.self.view_is ∙ c.requires.closed)))
    c.forget.ensures.closed (λ other ne. c.forget.ensures.others other ne ∙ c.in-Ok.ensures.others other ne) refl

pub returns-clause-fails : goal.returns-clause-fails
returns-clause-fails g c = λ failed. fails_early c.calls_keep_others.ensures _ _ _ c.args.key.now (begin_steps c.args.key.now) c.self.view_is refl
    (c.forget-in-Err.ensures.kept ∙ ap (λ (t : CacheTableValue). without c.args.key.now (kept t)) c.in-Err.ensures.err)
    (c.forget-in-Err.ensures.edits ∙ ap (λ (t : CacheTableValue). closed_at (edit_of c.args.key.now t.table.edits) t.table.edits) c.in-Err.ensures.err)
    c.forget-in-Err.ensures.closed (λ other ne. c.forget-in-Err.ensures.others other ne ∙ ap (λ (t : CacheTableValue). edit_of other t.table.edits) c.in-Err.ensures.err) refl
