use Rattle.std.proofs.Common.{[], refl, ap, ◌∙◌, is_ok, is_err, unwrap_or}
use Rattle.disk_table.specs.Table.{edit_of}
use Rattle.cache_folder.specs.Tables.{begun}
use Rattle.disk_lru.specs.Calls.{begin_steps}
use Rattle.disk_lru.proofs.Composed.{makes_by, fails_after, same_entries}
use Rattle.disk_lru.proofs.Fields.{full_same}
use Rattle.disk_lru.proofs.cache.OpenCache.begin.Goals as goal

pub begin_now-requires-clause-ready : goal.begin_now-requires-clause-ready
begin_now-requires-clause-ready g c = (c.ready.ensures.ok (ap is_ok c.in_ok-ready.was)).1

pub begin_now-requires-clause-closed : goal.begin_now-requires-clause-closed
begin_now-requires-clause-closed g c = ap (edit_of c.args.key.now) (c.ready.ensures.ok (ap is_ok c.in_ok-ready.was)).0.edits_are ∙ c.requires.closed

pub begin_now-requires-clause-room : goal.begin_now-requires-clause-room
begin_now-requires-clause-room g c = full_same c.args.key.now c.args.self.now c.ready.new.self (c.ready.ensures.ok (ap is_ok c.in_ok-ready.was)).0 ∙ c.requires.room

pub returns-in_err-ready-clause-fails : goal.returns-in_err-ready-clause-fails
returns-in_err-ready-clause-fails g c = λ failed. c.ready.ensures.fails (ap is_err c.in_err-ready.was) (begin_steps c.args.key.now)

pub returns-in_err-number-clause-fails : goal.returns-in_err-number-clause-fails
returns-in_err-number-clause-fails g c = λ failed. fails_after c.calls_keep_others.ensures c.args.key.now (begin_steps c.args.key.now) c.args.self.now c.ready.new.self c.begin_now.new.self (c.ready.ensures.ok (ap is_ok c.in_ok-ready.was)).0 (λ f h s. refl) (c.begin_now.ensures.fails (ap is_err c.in_err-number.was))

pub returns-clause-makes : goal.returns-clause-makes
returns-clause-makes g c = λ ok. makes_by c.calls_keep_others.ensures c.args.key.now (begin_steps c.args.key.now) c.args.self.now c.ready.new.self c.begin_now.new.self c.settle.new.self (c.ready.ensures.ok (ap is_ok c.in_ok-ready.was)).0 (λ f h s. refl) (c.begin_now.ensures.took (ap is_ok c.in_ok-number.was)) c.settle.ensures.rebuilds c.settle.ensures.settled

pub returns-clause-ok : goal.returns-clause-ok
returns-clause-ok g c = λ ok. c.settle.ensures.rebuilds.entries_are ∙ c.begin_now.ensures.ok (ap is_ok c.in_ok-number.was) ∙ ap (begun c.args.key.now) (c.ready.ensures.ok (ap is_ok c.in_ok-ready.was)).0.entries_are

pub returns-clause-empty : goal.returns-clause-empty
returns-clause-empty g c = λ ok k e. let m = c.settle.ensures.rebuilds.known k e in
    ap (λ o. unwrap_or o []) (c.calls_keep_others.ensures.entries_edits c.args.key.now m.0.held k.held (same_entries c.calls_keep_others.ensures c.begin_now.new.self c.settle.new.self c.settle.ensures.rebuilds m.0 k m.1 e))
    ∙ c.begin_now.ensures.empty (ap is_ok c.in_ok-number.was) m.0 m.1
