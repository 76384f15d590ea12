use Rattle.std.proofs.Common.{[], ◌∷◌, refl, ap, ◌∙◌, is_ok, is_err}
use Rattle.disk_table.specs.Table.{edit_of}
use Rattle.cache_folder.specs.Tables.{len_at, aborted}
use Rattle.cache_folder.specs.Sound.{abort_step}
use Rattle.disk_lru.specs.Calls.{abort_steps}
use Rattle.disk_lru.proofs.Composed.{makes_by, fails_after}
use Rattle.disk_lru.proofs.Fields.{closes_after, closes_before, took_as, fails_as}
use Rattle.disk_lru.proofs.cache.OpenCache.abort.Goals as goal

pub abort_now-requires-clause-ready : goal.abort_now-requires-clause-ready
abort_now-requires-clause-ready g c = (c.ready.ensures.ok (ap is_ok c.in_ok-ready.was)).1

pub abort_now-requires-clause-open : goal.abort_now-requires-clause-open
abort_now-requires-clause-open g c = ap (edit_of c.args.key.now) (c.ready.ensures.ok (ap is_ok c.in_ok-ready.was)).0.edits_are ∙ c.requires.open

pub returns-in_err-ready-clause-fails : goal.returns-in_err-ready-clause-fails
returns-in_err-ready-clause-fails g c = λ failed. c.ready.ensures.fails (ap is_err c.in_err-ready.was) (abort_steps c.args.key.now c.args.self.now)

pub returns-in_err-abort_now-clause-fails : goal.returns-in_err-abort_now-clause-fails
returns-in_err-abort_now-clause-fails g c = λ failed. fails_after c.calls_keep_others.ensures c.args.key.now (abort_steps c.args.key.now c.args.self.now) c.args.self.now c.ready.new.self c.abort_now.new.self (c.ready.ensures.ok (ap is_ok c.in_ok-ready.was)).0 (λ f h s. refl) (fails_as c.args.key.now _ _ c.ready.new.self c.abort_now.new.self (λ i f. abort_step (len_at c.args.key.now ((c.ready.ensures.ok (ap is_ok c.in_ok-ready.was)).0.entries_are i)) c.args.key.now ∷ []) (c.abort_now.ensures.fails (ap is_err c.in_err-abort_now.was)))

pub returns-clause-makes : goal.returns-clause-makes
returns-clause-makes g c = λ ok. makes_by c.calls_keep_others.ensures c.args.key.now (abort_steps c.args.key.now c.args.self.now) c.args.self.now c.ready.new.self c.abort_now.new.self c.settle.new.self (c.ready.ensures.ok (ap is_ok c.in_ok-ready.was)).0 (λ f h s. refl) (took_as c.args.key.now _ _ c.ready.new.self c.abort_now.new.self (λ i f. abort_step (len_at c.args.key.now ((c.ready.ensures.ok (ap is_ok c.in_ok-ready.was)).0.entries_are i)) c.args.key.now ∷ []) (c.abort_now.ensures.took (ap is_ok c.in_ok-abort_now.was))) c.settle.ensures.rebuilds c.settle.ensures.settled

pub returns-clause-ok : goal.returns-clause-ok
returns-clause-ok g c = λ ok. c.settle.ensures.rebuilds.entries_are ∙ c.abort_now.ensures.ok (ap is_ok c.in_ok-abort_now.was) ∙ ap (λ t. aborted (len_at c.args.key.now t) c.args.key.now t) (c.ready.ensures.ok (ap is_ok c.in_ok-ready.was)).0.entries_are

pub returns-in_err-ready-clause-edit : goal.returns-in_err-ready-clause-edit
returns-in_err-ready-clause-edit g c = (c.ready.ensures.fails (ap is_err c.in_err-ready.was) (abort_steps c.args.key.now c.args.self.now)).forgets.edit

pub returns-in_err-abort_now-clause-edit : goal.returns-in_err-abort_now-clause-edit
returns-in_err-abort_now-clause-edit g c = closes_after c.args.key.now c.args.self.now c.ready.new.self c.abort_now.new.self (c.ready.ensures.ok (ap is_ok c.in_ok-ready.was)).0 c.abort_now.ensures.edit

pub returns-clause-edit : goal.returns-clause-edit
returns-clause-edit g c = closes_before c.args.key.now c.args.self.now c.abort_now.new.self c.settle.new.self (closes_after c.args.key.now c.args.self.now c.ready.new.self c.abort_now.new.self (c.ready.ensures.ok (ap is_ok c.in_ok-ready.was)).0 c.abort_now.ensures.edit) c.settle.ensures.rebuilds
