use Rattle.std.proofs.Common.{refl, ap, ◌∙◌, is_ok}
use Rattle.disk_table.specs.Table.{TableValue}
use Rattle.cache_folder.specs.Tables.{kept}
use Rattle.disk_lru.specs.State.{CacheState}
use Rattle.disk_lru.specs.Calls.{no_steps}
use Rattle.disk_lru.proofs.Runs.{run_has}
use Rattle.disk_lru.proofs.Fields.{counted_same, keeps_failed, keeps_sound, sound_done, took_by, fails_by}
use Rattle.disk_lru.proofs.cache.OpenCache.write_now.Goals as goal

pub write-requires-clause-sound : goal.write-requires-clause-sound
write-requires-clause-sound g c = c.self.invariant.sound (ap (λ (s : CacheState). s.due) c.self.view_is ∙ c.requires.ready)

pub invariant_of-self : goal.invariant_of-self
invariant_of-self g c = keeps_sound (g.F.Files.history c.self.inside.files) (g.F.Files.history c.write.new.files) _ c.grow.new.self c.self.inside.due c.write.ensures.known
    (λ h e k e'. sound_done (g.F.Files.history c.write.new.files) _ _ k (c.write.ensures.ok (ap is_ok c.in-Ok.is) h e) e') c.grow.ensures.kept
    (λ h e k e'. counted_same h.held k.held _ _ (c.self.invariant.counted (ap (λ (s : CacheState). s.due) c.self.view_is ∙ c.requires.ready) h e) (c.write.ensures.lines (ap is_ok c.in-Ok.is) h e k e') (ap (λ (t : TableValue). t.lines) c.grow.ensures.table))

pub invariant_of-self-in-Err : goal.invariant_of-self-in-Err
invariant_of-self-in-Err g c = keeps_failed c.calls_keep_others.ensures c.args.key.now (g.F.Files.history c.self.inside.files) (g.F.Files.history c.write.new.files) (kept c.self.inside.table) c.forget.new.self c.write.ensures.known c.self.invariant.files
    (λ h e k e'. (run_has _ h k (g.F.Files.history c.write.new.files) (c.write.ensures.ways h e) e').1) c.forget.ensures.kept

pub returns-in-Ok-clause-took : goal.returns-in-Ok-clause-took
returns-in-Ok-clause-took g c = λ ok. took_by c.calls_keep_others.ensures _ _ _ c.args.key.now no_steps c.self.view_is c.write.ensures.known c.write.ensures.ways _ c.grow.ensures.kept (λ h e any same. c.calls_keep_others.ensures.length_written any c.args.key.now _ _ _ same) (c.write.ensures.ok (ap is_ok c.in-Ok.is))

pub returns-in-Err-clause-fails : goal.returns-in-Err-clause-fails
returns-in-Err-clause-fails g c = λ failed. fails_by c.calls_keep_others.ensures _ _ _ c.args.key.now no_steps c.self.view_is c.write.ensures.known c.write.ensures.ways c.forget.ensures.kept c.forget.ensures.edits c.forget.ensures.closed c.forget.ensures.others refl
