use Rattle.std.proofs.Common.{refl, ap, ◌∙◌, is_ok}
use Rattle.disk_table.specs.UseOrder.{is_known}
use Rattle.cache_folder.specs.Tables.{kept}
use Rattle.disk_lru.specs.State.{CacheState, entries}
use Rattle.disk_lru.specs.Calls.{drop_steps}
use Rattle.disk_lru.proofs.Fields.{counted_more, keeps_due, stays_by, no_other_by, keeps_sound, sound_done, closes_by, took_by}
use Rattle.disk_lru.proofs.cache.OpenCache.trim_now.Goals as goal

pub remove-requires : goal.remove-requires
remove-requires g c = record { sound = c.self.invariant.sound (ap (λ (s : CacheState). s.due) c.self.view_is ∙ c.requires.ready) }

pub invariant_of-self : goal.invariant_of-self
invariant_of-self g c = keeps_sound (g.F.Files.history c.self.inside.files) (g.F.Files.history c.remove.new.files) _ c.forget.new.self c.self.inside.due c.remove.ensures.known
    (λ h e k e'. sound_done (g.F.Files.history c.remove.new.files) _ _ k (c.remove.ensures.ok (ap is_ok c.in-Ok.is) h e) e') c.forget.ensures.kept
    (λ h e k e'. counted_more h.held k.held _ _ (c.self.invariant.counted (ap (λ (s : CacheState). s.due) c.self.view_is ∙ c.requires.ready) h e) (c.remove.ensures.lines (ap is_ok c.in-Ok.is) h e k e') (c.forget.ensures.lines (ap (λ (s : CacheState). is_known c.args.key.now (entries s)) c.self.view_is ∙ c.requires.known)))

pub invariant_of-self-in-Err : goal.invariant_of-self-in-Err
invariant_of-self-in-Err g c = keeps_due (g.F.Files.history c.remove.new.files) c.self.inside.table
    (λ k e. let m = c.remove.ensures.known k e in c.calls_keep_others.ensures.lost_kept c.args.key.now m.0.held k.held (kept c.self.inside.table) (c.remove.ensures.left m.0 m.1 k e) (c.self.invariant.files m.0 m.1))

pub returns-in-Ok-clause-took : goal.returns-in-Ok-clause-took
returns-in-Ok-clause-took g c = λ ok. took_by c.calls_keep_others.ensures _ _ _ c.args.key.now (drop_steps c.args.key.now) c.self.view_is c.remove.ensures.known c.remove.ensures.ways _ c.forget.ensures.kept (λ h e any same. c.calls_keep_others.ensures.length_dropped any c.args.key.now _ _ same) (c.remove.ensures.ok (ap is_ok c.in-Ok.is))

pub returns-in-Err-clause-stays : goal.returns-in-Err-clause-stays
returns-in-Err-clause-stays g c = λ failed. stays_by c.calls_keep_others.ensures _ _ _ c.args.key.now c.self.view_is c.remove.ensures.known c.remove.ensures.ways c.remove.ensures.left refl refl

pub returns-in-Ok-clause-edit : goal.returns-in-Ok-clause-edit
returns-in-Ok-clause-edit g c = λ ok. closes_by _ _ _ c.args.key.now c.self.view_is c.forget.ensures.edits c.forget.ensures.closed c.forget.ensures.others

pub returns-in-Ok-clause-files : goal.returns-in-Ok-clause-files
returns-in-Ok-clause-files g c = λ ok. no_other_by c.calls_keep_others.ensures _ _ _ c.args.key.now c.self.view_is (ap (λ (s : CacheState). s.due) c.self.view_is ∙ c.requires.ready) c.forget.ensures.kept
    c.remove.ensures.left (c.remove.ensures.gone (ap is_ok c.in-Ok.is))
