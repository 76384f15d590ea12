use Rattle.std.proofs.Common.{[], ◌++◌, ◌+◌, length, refl, sym, ap, ◌∙◌, is_ok, is_err, unwrap_or}
use Rattle.disk_table.specs.Table.{edit_of}
use Rattle.cache_folder.specs.Tables.{edit_at, grown_edit}
use Rattle.disk_lru.specs.Calls.{no_steps}
use Rattle.disk_lru.proofs.Composed.{makes_by, fails_after, same_entries}
use Rattle.disk_lru.proofs.cache.OpenCache.write.Goals as goal

pub write_now-requires-clause-ready : goal.write_now-requires-clause-ready
write_now-requires-clause-ready g c = (c.ready.ensures.ok (ap is_ok c.in_ok-ready.was)).1

pub write_now-requires-clause-open : goal.write_now-requires-clause-open
write_now-requires-clause-open g c = ap (edit_of c.args.key.now) (c.ready.ensures.ok (ap is_ok c.in_ok-ready.was)).0.edits_are ∙ c.requires.open

pub write_now-requires-clause-small : goal.write_now-requires-clause-small
write_now-requires-clause-small g c = λ n e. c.requires.small n (ap (edit_at c.args.key.now) (sym (c.ready.ensures.ok (ap is_ok c.in_ok-ready.was)).0.entries_are) ∙ e)

pub returns-in_err-ready-clause-fails : goal.returns-in_err-ready-clause-fails
returns-in_err-ready-clause-fails g c = λ failed. c.ready.ensures.fails (ap is_err c.in_err-ready.was) no_steps

pub returns-in_err-write_now-clause-fails : goal.returns-in_err-write_now-clause-fails
returns-in_err-write_now-clause-fails g c = λ failed. fails_after c.calls_keep_others.ensures c.args.key.now no_steps c.args.self.now c.ready.new.self c.write_now.new.self (c.ready.ensures.ok (ap is_ok c.in_ok-ready.was)).0 (λ f h s. refl) (c.write_now.ensures.fails (ap is_err c.in_err-write_now.was))

pub returns-clause-makes : goal.returns-clause-makes
returns-clause-makes g c = λ ok. makes_by c.calls_keep_others.ensures c.args.key.now no_steps c.args.self.now c.ready.new.self c.write_now.new.self c.settle.new.self (c.ready.ensures.ok (ap is_ok c.in_ok-ready.was)).0 (λ f h s. refl) (c.write_now.ensures.took (ap is_ok c.in_ok-write_now.was)) c.settle.ensures.rebuilds c.settle.ensures.settled

pub returns-clause-ok : goal.returns-clause-ok
returns-clause-ok g c = λ ok n e. c.settle.ensures.rebuilds.entries_are ∙ c.write_now.ensures.ok (ap is_ok c.in_ok-write_now.was) n (ap (edit_at c.args.key.now) (c.ready.ensures.ok (ap is_ok c.in_ok-ready.was)).0.entries_are ∙ e) ∙ ap (grown_edit c.args.key.now (n + length c.args.bytes.now)) (c.ready.ensures.ok (ap is_ok c.in_ok-ready.was)).0.entries_are

pub returns-clause-edits : goal.returns-clause-edits
returns-clause-edits g c = λ ok. c.settle.ensures.rebuilds.edits_are ∙ c.write_now.ensures.edits (ap is_ok c.in_ok-write_now.was) ∙ (c.ready.ensures.ok (ap is_ok c.in_ok-ready.was)).0.edits_are

pub returns-clause-text : goal.returns-clause-text
returns-clause-text g c = λ ok h e k e'.
    let late = c.settle.ensures.rebuilds.known k e' in
    let early = (c.write_now.ensures.took (ap is_ok c.in_ok-write_now.was)).call.passage.known late.0 late.1 in
    ap (λ o. unwrap_or o []) (c.calls_keep_others.ensures.entries_edits c.args.key.now late.0.held k.held (same_entries c.calls_keep_others.ensures c.write_now.new.self c.settle.new.self c.settle.ensures.rebuilds late.0 k late.1 e'))
    ∙ c.write_now.ensures.text (ap is_ok c.in_ok-write_now.was) early.0 early.1 late.0 late.1
    ∙ ap (λ o. unwrap_or o [] ++ c.args.bytes.now) (c.calls_keep_others.ensures.entries_edits c.args.key.now h.held early.0.held (same_entries c.calls_keep_others.ensures c.args.self.now c.ready.new.self (c.ready.ensures.ok (ap is_ok c.in_ok-ready.was)).0 h early.0 e early.1))
