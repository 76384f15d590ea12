use Rattle.std.proofs.Common.{refl, ap, ◌∙◌, is_ok, is_err}
use Rattle.disk_table.specs.UseOrder.{used, is_known}
use Rattle.disk_lru.specs.Calls.{use_steps}
use Rattle.disk_lru.proofs.Composed.{makes_by, fails_after}
use Rattle.disk_lru.proofs.cache.OpenCache.use_entry.Goals as goal

pub touch_now-requires-clause-ready : goal.touch_now-requires-clause-ready
touch_now-requires-clause-ready g c = (c.ready.ensures.ok (ap is_ok c.in_ok-ready.was)).1

pub touch_now-requires-clause-known : goal.touch_now-requires-clause-known
touch_now-requires-clause-known g c = ap (is_known c.args.key.now) (c.ready.ensures.ok (ap is_ok c.in_ok-ready.was)).0.entries_are ∙ c.requires.known

pub returns-in_err-ready-clause-fails : goal.returns-in_err-ready-clause-fails
returns-in_err-ready-clause-fails g c = λ failed. c.ready.ensures.fails (ap is_err c.in_err-ready.was) (use_steps c.args.key.now)

pub returns-in_err-touch_now-clause-fails : goal.returns-in_err-touch_now-clause-fails
returns-in_err-touch_now-clause-fails g c = λ failed. fails_after c.calls_keep_others.ensures c.args.key.now (use_steps c.args.key.now) c.args.self.now c.ready.new.self c.touch_now.new.self (c.ready.ensures.ok (ap is_ok c.in_ok-ready.was)).0 (λ f h s. refl) (c.touch_now.ensures.fails (ap is_err c.in_err-touch_now.was))

pub returns-clause-makes : goal.returns-clause-makes
returns-clause-makes g c = λ ok. makes_by c.calls_keep_others.ensures c.args.key.now (use_steps c.args.key.now) c.args.self.now c.ready.new.self c.touch_now.new.self c.settle.new.self (c.ready.ensures.ok (ap is_ok c.in_ok-ready.was)).0 (λ f h s. refl) (c.touch_now.ensures.took (ap is_ok c.in_ok-touch_now.was)) c.settle.ensures.rebuilds c.settle.ensures.settled

pub returns-clause-ok : goal.returns-clause-ok
returns-clause-ok g c = λ ok. c.settle.ensures.rebuilds.entries_are ∙ c.touch_now.ensures.ok (ap is_ok c.in_ok-touch_now.was) ∙ ap (used c.args.key.now) (c.ready.ensures.ok (ap is_ok c.in_ok-ready.was)).0.entries_are

pub returns-clause-edits : goal.returns-clause-edits
returns-clause-edits g c = λ ok. c.settle.ensures.rebuilds.edits_are ∙ c.touch_now.ensures.edits (ap is_ok c.in_ok-touch_now.was) ∙ (c.ready.ensures.ok (ap is_ok c.in_ok-ready.was)).0.edits_are
