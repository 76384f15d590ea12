use Rattle.std.proofs.Common.{ℕ, Ok, Vec, Global, sym, subst}
use Rattle.cache_key.specs.FileKey.{file_key}
use Rattle.store_world.specs.declared.events.StoreEvent.TheVariants as events
use Rattle.store_world.specs.declared.events.StoreReply.TheVariants as replies
use Rattle.store_world.specs.StoreMachine.{noted}
use Rattle.store_shared.specs.declared.answers.Stored.{Stored}
use Rattle.store_shared.specs.Caller.{MadeSteps}
use Rattle.store_shared.specs.Answers.{Writes, IsCommit}
use Rattle.store_shared.proofs.Writing.{without_write, without_commit, with_commit, commits_after}
use Rattle.store_shared.proofs.storing.write_and_commit.Goals as goal

pub returns-in-Err-clause-steps : goal.returns-in-Err-clause-steps
returns-in-Err-clause-steps g c =
    let old = g.S.StoreSteps.caller c.args.steps.now in let between = g.S.StoreSteps.caller c.write.new.steps in let new = g.S.StoreSteps.caller c.give_up.new.steps in
    subst (λ (answer : Stored). MadeSteps (Writes c.args.file.items answer) old new) (sym c.failed_by.ensures)
    (without_write old between new c.args.file.items c.in-Err.fault c.in-Err.ensures.step c.give_up.ensures.step)

pub returns-in-Ok-clause-steps : goal.returns-in-Ok-clause-steps
returns-in-Ok-clause-steps g c =
    let old = g.S.StoreSteps.caller c.args.steps.now in let between = g.S.StoreSteps.caller c.write.new.steps in let new = g.S.StoreSteps.caller c.commit.new.steps in
    with_commit old between new c.args.file.items c.in_default.ensures.step c.in-Ok.ensures.commit.step

pub returns-in-Ok-clause-stored : goal.returns-in-Ok-clause-stored
returns-in-Ok-clause-stored g c is =
    let old = g.S.StoreSteps.caller c.args.steps.now in let between = g.S.StoreSteps.caller c.write.new.steps in let new = g.S.StoreSteps.caller c.commit.new.steps in
    let key = file_key c.args.bytes.now in
    let commit = subst (λ (file : Vec ℕ Global). IsCommit (key, file.items) (Ok c.in-Ok.field-0) between new) c.of-shown.ensures c.in-Ok.ensures.commit in
    commits_after old between new (noted (events.Write c.args.file.items) replies.Done) (key, c.args.file.items) c.in_default.ensures.step commit

pub returns-clause-steps : goal.returns-clause-steps
returns-clause-steps g c =
    let old = g.S.StoreSteps.caller c.args.steps.now in let between = g.S.StoreSteps.caller c.write.new.steps in let new = g.S.StoreSteps.caller c.commit.new.steps in
    subst (λ (answer : Stored). MadeSteps (Writes c.args.file.items answer) old new) (sym c.failed_by-in-Err-commit.ensures)
    (without_commit old between new c.args.file.items c.in-Err-commit.fault c.in_default.ensures.step c.in-Err-commit.ensures.commit.step)
