use Rattle.std.proofs.Common.{refl, ap, ◌∙◌, is_ok}
use Rattle.disk_table.specs.Table.{edit_of}
use Rattle.cache_folder.specs.Tables.{kept}
use Rattle.cache_folder.specs.Offered.{edit_name}
use Rattle.cache_folder.specs.Sound.{text_at}
use Rattle.disk_lru.specs.State.{CacheState, edits}
use Rattle.disk_lru.specs.Calls.{commit_steps}
use Rattle.disk_lru.proofs.Runs.{run_has}
use Rattle.disk_lru.proofs.Fields.{counted_more, keeps_failed, keeps_sound, sound_done, closes_by, closed_open, took_by, fails_by}
use Rattle.disk_lru.proofs.cache.OpenCache.commit_now.Goals as goal

pub commit-requires-clause-sound : goal.commit-requires-clause-sound
commit-requires-clause-sound g c = c.self.invariant.sound (ap (λ (s : CacheState). s.due) c.self.view_is ∙ c.requires.ready)

pub invariant_of-self : goal.invariant_of-self
invariant_of-self g c = keeps_sound (g.F.Files.history c.self.inside.files) (g.F.Files.history c.commit.new.files) _ c.commit-in-Ok.new.self c.self.inside.due c.commit.ensures.known
    (λ h e k e'. sound_done (g.F.Files.history c.commit.new.files) _ _ k (c.commit.ensures.ok (ap is_ok c.in-Ok.is) h e) e') c.commit-in-Ok.ensures.kept
    (λ h e k e'. counted_more h.held k.held _ _ (c.self.invariant.counted (ap (λ (s : CacheState). s.due) c.self.view_is ∙ c.requires.ready) h e) (c.commit.ensures.lines (ap is_ok c.in-Ok.is) h e k e') c.commit-in-Ok.ensures.lines)

pub invariant_of-self-in-Err : goal.invariant_of-self-in-Err
invariant_of-self-in-Err g c = keeps_failed c.calls_keep_others.ensures c.args.key.now (g.F.Files.history c.self.inside.files) (g.F.Files.history c.commit.new.files) (kept c.self.inside.table) c.forget.new.self c.commit.ensures.known c.self.invariant.files
    (λ h e k e'. (run_has _ h k (g.F.Files.history c.commit.new.files) (c.commit.ensures.ways h e) e').1) c.forget.ensures.kept

pub returns-in-Ok-clause-took : goal.returns-in-Ok-clause-took
returns-in-Ok-clause-took g c = λ ok. took_by c.calls_keep_others.ensures _ _ _ c.args.key.now (commit_steps c.args.key.now) c.self.view_is c.commit.ensures.known c.commit.ensures.ways _ c.commit-in-Ok.ensures.kept
    (λ h e any same. c.calls_keep_others.ensures.length_committed any c.args.key.now (text_at h.held (edit_name c.args.key.now)) c.written_by-written.result (kept c.self.inside.table) _ (c.calls_keep_others.ensures.edit_length c.args.key.now c.written_by-written.result h.held (kept c.self.inside.table) (c.self.invariant.files h e) c.written_by-written.ensures.written) same)
    (c.commit.ensures.ok (ap is_ok c.in-Ok.is))

pub returns-in-Err-clause-fails : goal.returns-in-Err-clause-fails
returns-in-Err-clause-fails g c = λ failed. fails_by c.calls_keep_others.ensures _ _ _ c.args.key.now (commit_steps c.args.key.now) c.self.view_is c.commit.ensures.known c.commit.ensures.ways c.forget.ensures.kept c.forget.ensures.edits c.forget.ensures.closed c.forget.ensures.others refl

pub returns-in-Ok-clause-edit : goal.returns-in-Ok-clause-edit
returns-in-Ok-clause-edit g c = closes_by _ _ _ c.args.key.now c.self.view_is (closed_open _ _ c.self.inside.table.table.edits _ c.commit-in-Ok.ensures.edits (ap (λ (s : CacheState). edit_of c.args.key.now (edits s)) c.self.view_is ∙ c.requires.open)) c.commit-in-Ok.ensures.closed c.commit-in-Ok.ensures.others

pub returns-in-Err-clause-edit : goal.returns-in-Err-clause-edit
returns-in-Err-clause-edit g c = closes_by _ _ _ c.args.key.now c.self.view_is c.forget.ensures.edits c.forget.ensures.closed c.forget.ensures.others
