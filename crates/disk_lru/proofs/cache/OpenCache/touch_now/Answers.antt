use Rattle.std.proofs.Common.{refl, ap, ◌∙◌, is_ok}
use Rattle.disk_table.specs.UseOrder.{is_known}
use Rattle.cache_folder.specs.Tables.{kept}
use Rattle.disk_lru.specs.State.{CacheState, entries}
use Rattle.disk_lru.specs.Calls.{use_steps}
use Rattle.disk_lru.proofs.Runs.{run_has}
use Rattle.disk_lru.proofs.Fields.{counted_more, keeps_failed, keeps_sound, sound_done, took_by, fails_by}
use Rattle.disk_lru.proofs.cache.OpenCache.touch_now.Goals as goal

pub touch-requires-clause-sound : goal.touch-requires-clause-sound
touch-requires-clause-sound g c = c.self.invariant.sound (ap (λ (s : CacheState). s.due) c.self.view_is ∙ c.requires.ready)

pub invariant_of-self : goal.invariant_of-self
invariant_of-self g c = keeps_sound (g.F.Files.history c.self.inside.files) (g.F.Files.history c.touch.new.files) _ c.touch-in-Ok.new.self c.self.inside.due c.touch.ensures.known
    (λ h e k e'. sound_done (g.F.Files.history c.touch.new.files) _ _ k (c.touch.ensures.ok (ap is_ok c.in-Ok.is) h e) e') c.touch-in-Ok.ensures.kept
    (λ h e k e'. counted_more h.held k.held _ _ (c.self.invariant.counted (ap (λ (s : CacheState). s.due) c.self.view_is ∙ c.requires.ready) h e) (c.touch.ensures.lines (ap is_ok c.in-Ok.is) h e k e') (c.touch-in-Ok.ensures.lines (ap (λ (s : CacheState). is_known c.args.key.now (entries s)) c.self.view_is ∙ c.requires.known)))

pub invariant_of-self-in-Err : goal.invariant_of-self-in-Err
invariant_of-self-in-Err g c = keeps_failed c.calls_keep_others.ensures c.args.key.now (g.F.Files.history c.self.inside.files) (g.F.Files.history c.touch.new.files) (kept c.self.inside.table) c.forget.new.self c.touch.ensures.known c.self.invariant.files
    (λ h e k e'. (run_has _ h k (g.F.Files.history c.touch.new.files) (c.touch.ensures.ways h e) e').1) c.forget.ensures.kept

pub returns-in-Ok-clause-took : goal.returns-in-Ok-clause-took
returns-in-Ok-clause-took g c = λ ok. took_by c.calls_keep_others.ensures _ _ _ c.args.key.now (use_steps c.args.key.now) c.self.view_is c.touch.ensures.known c.touch.ensures.ways _ c.touch-in-Ok.ensures.kept (λ h e any same. c.calls_keep_others.ensures.length_used any c.args.key.now _ _ same) (c.touch.ensures.ok (ap is_ok c.in-Ok.is))

pub returns-in-Err-clause-fails : goal.returns-in-Err-clause-fails
returns-in-Err-clause-fails g c = λ failed. fails_by c.calls_keep_others.ensures _ _ _ c.args.key.now (use_steps c.args.key.now) c.self.view_is c.touch.ensures.known c.touch.ensures.ways c.forget.ensures.kept c.forget.ensures.edits c.forget.ensures.closed c.forget.ensures.others refl
