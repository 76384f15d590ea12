use Rattle.std.proofs.Common.{refl, ap, ◌∙◌, is_ok}
use Rattle.disk_table.specs.UseOrder.{is_known}
use Rattle.cache_folder.specs.Tables.{kept}
use Rattle.disk_lru.specs.State.{CacheState, entries}
use Rattle.disk_lru.specs.Calls.{drop_steps}
use Rattle.disk_lru.proofs.Runs.{run_has}
use Rattle.disk_lru.proofs.Fields.{counted_more, keeps_failed, keeps_sound, sound_done, closes_by, took_by, fails_by}
use Rattle.disk_lru.proofs.cache.OpenCache.remove_now.Goals as goal

pub remove-requires : goal.remove-requires
remove-requires g c = record { sound = c.self.invariant.sound (ap (λ (s : CacheState). s.due) c.self.view_is ∙ c.requires.ready) }

pub invariant_of-self : goal.invariant_of-self
invariant_of-self g c = keeps_sound (g.F.Files.history c.self.inside.files) (g.F.Files.history c.remove.new.files) _ c.forget.new.self c.self.inside.due c.remove.ensures.known
    (λ h e k e'. sound_done (g.F.Files.history c.remove.new.files) _ _ k (c.remove.ensures.ok (ap is_ok c.in-Ok.is) h e) e') c.forget.ensures.kept
    (λ h e k e'. counted_more h.held k.held _ _ (c.self.invariant.counted (ap (λ (s : CacheState). s.due) c.self.view_is ∙ c.requires.ready) h e) (c.remove.ensures.lines (ap is_ok c.in-Ok.is) h e k e') (c.forget.ensures.lines (ap (λ (s : CacheState). is_known c.args.key.now (entries s)) c.self.view_is ∙ c.requires.known)))

pub invariant_of-self-in-Err : goal.invariant_of-self-in-Err
invariant_of-self-in-Err g c = keeps_failed c.calls_keep_others.ensures c.args.key.now (g.F.Files.history c.self.inside.files) (g.F.Files.history c.remove.new.files) (kept c.self.inside.table) c.forget-in-Err.new.self c.remove.ensures.known c.self.invariant.files
    (λ h e k e'. (run_has _ h k (g.F.Files.history c.remove.new.files) (c.remove.ensures.ways h e) e').1) c.forget-in-Err.ensures.kept

pub returns-in-Ok-clause-took : goal.returns-in-Ok-clause-took
returns-in-Ok-clause-took g c = λ ok. took_by c.calls_keep_others.ensures _ _ _ c.args.key.now (drop_steps c.args.key.now) c.self.view_is c.remove.ensures.known c.remove.ensures.ways _ c.forget.ensures.kept (λ h e any same. c.calls_keep_others.ensures.length_dropped any c.args.key.now _ _ same) (c.remove.ensures.ok (ap is_ok c.in-Ok.is))

pub returns-in-Err-clause-fails : goal.returns-in-Err-clause-fails
returns-in-Err-clause-fails g c = λ failed. fails_by c.calls_keep_others.ensures _ _ _ c.args.key.now (drop_steps c.args.key.now) c.self.view_is c.remove.ensures.known c.remove.ensures.ways c.forget-in-Err.ensures.kept c.forget-in-Err.ensures.edits c.forget-in-Err.ensures.closed c.forget-in-Err.ensures.others refl

pub returns-in-Ok-clause-edit : goal.returns-in-Ok-clause-edit
returns-in-Ok-clause-edit g c = closes_by _ _ _ c.args.key.now c.self.view_is c.forget.ensures.edits c.forget.ensures.closed c.forget.ensures.others

pub returns-in-Err-clause-edit : goal.returns-in-Err-clause-edit
returns-in-Err-clause-edit g c = closes_by _ _ _ c.args.key.now c.self.view_is c.forget-in-Err.ensures.edits c.forget-in-Err.ensures.closed c.forget-in-Err.ensures.others
