use Rattle.std.proofs.Common.{[], ◌∷◌, refl, sym, ap, subst, ◌∙◌, is_ok}
use Rattle.disk_table.specs.Table.{edit_of}
use Rattle.cache_folder.specs.Tables.{kept, len_at, aborted}
use Rattle.cache_folder.specs.Steps.{stepped}
use Rattle.cache_folder.specs.Sound.{listed, SameLength, abort_step}
use Rattle.disk_lru.specs.State.{CacheState, entries, edits}
use Rattle.disk_lru.proofs.Runs.{run_has}
use Rattle.disk_lru.proofs.Fields.{counted_more, keeps_failed, keeps_sound, sound_done, closes_by, closed_open, took_by, fails_by, took_as, fails_as}
use Rattle.disk_lru.proofs.cache.OpenCache.abort_now.Goals as goal

pub abort-requires-clause-sound : goal.abort-requires-clause-sound
abort-requires-clause-sound g c = c.self.invariant.sound (ap (λ (s : CacheState). s.due) c.self.view_is ∙ c.requires.ready)

pub invariant_of-self : goal.invariant_of-self
invariant_of-self g c = keeps_sound (g.F.Files.history c.self.inside.files) (g.F.Files.history c.abort.new.files) _ c.abort-in-Ok.new.self c.self.inside.due c.abort.ensures.known
    (λ h e k e'. sound_done (g.F.Files.history c.abort.new.files) _ _ k (c.abort.ensures.ok (ap is_ok c.in-Ok.is) h e) e') c.abort-in-Ok.ensures.kept
    (λ h e k e'. counted_more h.held k.held _ _ (c.self.invariant.counted (ap (λ (s : CacheState). s.due) c.self.view_is ∙ c.requires.ready) h e) (c.abort.ensures.lines (ap is_ok c.in-Ok.is) h e k e') c.abort-in-Ok.ensures.lines)

pub invariant_of-self-in-Err : goal.invariant_of-self-in-Err
invariant_of-self-in-Err g c = keeps_failed c.calls_keep_others.ensures c.args.key.now (g.F.Files.history c.self.inside.files) (g.F.Files.history c.abort.new.files) (kept c.self.inside.table) c.forget.new.self c.abort.ensures.known c.self.invariant.files
    (λ h e k e'. (run_has _ h k (g.F.Files.history c.abort.new.files) (c.abort.ensures.ways h e) e').1) c.forget.ensures.kept

pub returns-in-Ok-clause-took : goal.returns-in-Ok-clause-took
returns-in-Ok-clause-took g c = λ ok. took_as _ _ _ _ _ (λ i f. abort_step ((c.clean-old.ensures.length ∙ ap (λ (s : CacheState). len_at c.args.key.now (entries s)) c.self.view_is) i) c.args.key.now ∷ []) (took_by c.calls_keep_others.ensures _ _ _ c.args.key.now (λ f. abort_step c.clean-old.result c.args.key.now ∷ []) c.self.view_is c.abort.ensures.known c.abort.ensures.ways _ c.abort-in-Ok.ensures.kept
    (λ h e any same. subst (λ o. SameLength any (aborted o c.args.key.now (kept c.self.inside.table)) (stepped (listed h.held (kept c.self.inside.table)) (abort_step o c.args.key.now))) (sym c.clean-old.ensures.length) (c.calls_keep_others.ensures.length_aborted any c.args.key.now (kept c.self.inside.table) _ same))
    (c.abort.ensures.ok (ap is_ok c.in-Ok.is)))

pub returns-in-Err-clause-fails : goal.returns-in-Err-clause-fails
returns-in-Err-clause-fails g c = λ failed. fails_as _ _ _ _ _ (λ i f. abort_step ((c.clean-old.ensures.length ∙ ap (λ (s : CacheState). len_at c.args.key.now (entries s)) c.self.view_is) i) c.args.key.now ∷ []) (fails_by c.calls_keep_others.ensures _ _ _ c.args.key.now (λ f. abort_step c.clean-old.result c.args.key.now ∷ []) c.self.view_is c.abort.ensures.known c.abort.ensures.ways c.forget.ensures.kept c.forget.ensures.edits c.forget.ensures.closed c.forget.ensures.others refl)

pub returns-in-Ok-clause-edit : goal.returns-in-Ok-clause-edit
returns-in-Ok-clause-edit g c = closes_by _ _ _ c.args.key.now c.self.view_is (closed_open _ _ c.self.inside.table.table.edits _ c.abort-in-Ok.ensures.edits (ap (λ (s : CacheState). edit_of c.args.key.now (edits s)) c.self.view_is ∙ c.requires.open)) c.abort-in-Ok.ensures.closed c.abort-in-Ok.ensures.others

pub returns-in-Err-clause-edit : goal.returns-in-Err-clause-edit
returns-in-Err-clause-edit g c = closes_by _ _ _ c.args.key.now c.self.view_is c.forget.ensures.edits c.forget.ensures.closed c.forget.ensures.others
