use Rattle.disk_lru.proofs.Composed.{call_unready}
use Rattle.disk_lru.proofs.Fields.{forgets_after, fails_is}
use Rattle.disk_lru.proofs.cache.OpenCache.ready.Goals as goal

pub returns-then-is_err-clause-fails : goal.returns-then-is_err-clause-fails
returns-then-is_err-clause-fails g c = λ failed meant.
    let forgets = forgets_after c.args.key.now c.args.self.now c.rebuild_due-result.new.self c.fail.new.self c.rebuild_due-result.ensures.rebuilds c.fail.ensures.forgets in
    fails_is c.calls_keep_others.ensures c.args.key.now meant c.args.self.now c.fail.new.self forgets
    (call_unready c.calls_keep_others.ensures c.args.key.now meant c.args.self.now c.rebuild_due-result.new.self c.fail.new.self c.rebuild_due-result.ensures.rebuilds c.fail.ensures.files.0 c.fail.ensures.forgets.entries_are)
