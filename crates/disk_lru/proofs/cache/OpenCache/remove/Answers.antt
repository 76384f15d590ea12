use Rattle.std.proofs.Common.{refl, ap, ◌∙◌, is_ok, is_err}
use Rattle.disk_table.specs.UseOrder.{without, is_known}
use Rattle.disk_lru.specs.Calls.{drop_steps}
use Rattle.disk_lru.proofs.Composed.{makes_by, fails_after}
use Rattle.disk_lru.proofs.Fields.{closes_after, closes_before}
use Rattle.disk_lru.proofs.cache.OpenCache.remove.Goals as goal

pub remove_now-requires-clause-ready : goal.remove_now-requires-clause-ready
remove_now-requires-clause-ready g c = (c.ready.ensures.ok (ap is_ok c.in_ok-ready.was)).1

pub remove_now-requires-clause-known : goal.remove_now-requires-clause-known
remove_now-requires-clause-known g c = ap (is_known c.args.key.now) (c.ready.ensures.ok (ap is_ok c.in_ok-ready.was)).0.entries_are ∙ c.requires.known

pub returns-in_err-ready-clause-fails : goal.returns-in_err-ready-clause-fails
returns-in_err-ready-clause-fails g c = λ failed. c.ready.ensures.fails (ap is_err c.in_err-ready.was) (drop_steps c.args.key.now)

pub returns-in_err-remove_now-clause-fails : goal.returns-in_err-remove_now-clause-fails
returns-in_err-remove_now-clause-fails g c = λ failed. fails_after c.calls_keep_others.ensures c.args.key.now (drop_steps c.args.key.now) c.args.self.now c.ready.new.self c.remove_now.new.self (c.ready.ensures.ok (ap is_ok c.in_ok-ready.was)).0 (λ f h s. refl) (c.remove_now.ensures.fails (ap is_err c.in_err-remove_now.was))

pub returns-clause-makes : goal.returns-clause-makes
returns-clause-makes g c = λ ok. makes_by c.calls_keep_others.ensures c.args.key.now (drop_steps c.args.key.now) c.args.self.now c.ready.new.self c.remove_now.new.self c.settle.new.self (c.ready.ensures.ok (ap is_ok c.in_ok-ready.was)).0 (λ f h s. refl) (c.remove_now.ensures.took (ap is_ok c.in_ok-remove_now.was)) c.settle.ensures.rebuilds c.settle.ensures.settled

pub returns-clause-ok : goal.returns-clause-ok
returns-clause-ok g c = λ ok. c.settle.ensures.rebuilds.entries_are ∙ c.remove_now.ensures.ok (ap is_ok c.in_ok-remove_now.was) ∙ ap (without c.args.key.now) (c.ready.ensures.ok (ap is_ok c.in_ok-ready.was)).0.entries_are

pub returns-in_err-ready-clause-edit : goal.returns-in_err-ready-clause-edit
returns-in_err-ready-clause-edit g c = (c.ready.ensures.fails (ap is_err c.in_err-ready.was) (drop_steps c.args.key.now)).forgets.edit

pub returns-in_err-remove_now-clause-edit : goal.returns-in_err-remove_now-clause-edit
returns-in_err-remove_now-clause-edit g c = closes_after c.args.key.now c.args.self.now c.ready.new.self c.remove_now.new.self (c.ready.ensures.ok (ap is_ok c.in_ok-ready.was)).0 c.remove_now.ensures.edit

pub returns-clause-edit : goal.returns-clause-edit
returns-clause-edit g c = closes_before c.args.key.now c.args.self.now c.remove_now.new.self c.settle.new.self (closes_after c.args.key.now c.args.self.now c.ready.new.self c.remove_now.new.self (c.ready.ensures.ok (ap is_ok c.in_ok-ready.was)).0 c.remove_now.ensures.edit) c.settle.ensures.rebuilds
