use Rattle.std.proofs.Common.{[], ◌∷◌, ap, ◌∙◌, is_ok, is_err, unwrap_or}
use Rattle.disk_table.specs.Table.{edit_of}
use Rattle.cache_folder.specs.Steps.{Commit}
use Rattle.cache_folder.specs.Tables.{edit_at, committed}
use Rattle.disk_lru.specs.Calls.{commit_steps}
use Rattle.disk_lru.proofs.Composed.{makes_by, fails_after}
use Rattle.disk_lru.proofs.Stays.{entry_stored}
use Rattle.disk_lru.proofs.Fields.{closes_after, closes_before}
use Rattle.disk_lru.proofs.cache.OpenCache.commit.Goals as goal

pub commit_now-requires-clause-ready : goal.commit_now-requires-clause-ready
commit_now-requires-clause-ready g c = (c.ready.ensures.ok (ap is_ok c.in_ok-ready.was)).1

pub commit_now-requires-clause-open : goal.commit_now-requires-clause-open
commit_now-requires-clause-open g c = ap (edit_of c.args.key.now) (c.ready.ensures.ok (ap is_ok c.in_ok-ready.was)).0.edits_are ∙ c.requires.open

pub returns-in_err-ready-clause-fails : goal.returns-in_err-ready-clause-fails
returns-in_err-ready-clause-fails g c = λ failed. c.ready.ensures.fails (ap is_err c.in_err-ready.was) (commit_steps c.args.key.now)

pub returns-in_err-commit_now-clause-fails : goal.returns-in_err-commit_now-clause-fails
returns-in_err-commit_now-clause-fails g c = λ failed. fails_after c.calls_keep_others.ensures c.args.key.now (commit_steps c.args.key.now) c.args.self.now c.ready.new.self c.commit_now.new.self (c.ready.ensures.ok (ap is_ok c.in_ok-ready.was)).0 (λ f h s. ap (λ o. Commit c.args.key.now (unwrap_or o []) ∷ []) (c.calls_keep_others.ensures.entries_edits c.args.key.now f h s)) (c.commit_now.ensures.fails (ap is_err c.in_err-commit_now.was))

pub returns-clause-makes : goal.returns-clause-makes
returns-clause-makes g c = λ ok. makes_by c.calls_keep_others.ensures c.args.key.now (commit_steps c.args.key.now) c.args.self.now c.ready.new.self c.commit_now.new.self c.settle.new.self (c.ready.ensures.ok (ap is_ok c.in_ok-ready.was)).0 (λ f h s. ap (λ o. Commit c.args.key.now (unwrap_or o []) ∷ []) (c.calls_keep_others.ensures.entries_edits c.args.key.now f h s)) (c.commit_now.ensures.took (ap is_ok c.in_ok-commit_now.was)) c.settle.ensures.rebuilds c.settle.ensures.settled

pub returns-clause-ok : goal.returns-clause-ok
returns-clause-ok g c = λ ok n e. c.settle.ensures.rebuilds.entries_are ∙ c.commit_now.ensures.ok (ap is_ok c.in_ok-commit_now.was) n (ap (edit_at c.args.key.now) (c.ready.ensures.ok (ap is_ok c.in_ok-ready.was)).0.entries_are ∙ e) ∙ ap (committed c.args.key.now n) (c.ready.ensures.ok (ap is_ok c.in_ok-ready.was)).0.entries_are

pub returns-in_err-ready-clause-edit : goal.returns-in_err-ready-clause-edit
returns-in_err-ready-clause-edit g c = (c.ready.ensures.fails (ap is_err c.in_err-ready.was) (commit_steps c.args.key.now)).forgets.edit

pub returns-in_err-commit_now-clause-edit : goal.returns-in_err-commit_now-clause-edit
returns-in_err-commit_now-clause-edit g c = closes_after c.args.key.now c.args.self.now c.ready.new.self c.commit_now.new.self (c.ready.ensures.ok (ap is_ok c.in_ok-ready.was)).0 c.commit_now.ensures.edit

pub returns-clause-edit : goal.returns-clause-edit
returns-clause-edit g c = closes_before c.args.key.now c.args.self.now c.commit_now.new.self c.settle.new.self (closes_after c.args.key.now c.args.self.now c.ready.new.self c.commit_now.new.self (c.ready.ensures.ok (ap is_ok c.in_ok-ready.was)).0 c.commit_now.ensures.edit) c.settle.ensures.rebuilds

pub returns-clause-stored : goal.returns-clause-stored
returns-clause-stored g c = λ ok h e k e'. entry_stored c.calls_keep_others.ensures c.args.key.now c.args.self.now c.settle.new.self (returns-clause-makes g c ok) h e k e'
