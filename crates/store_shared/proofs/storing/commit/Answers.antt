use Rattle.std.proofs.Common.{sym, subst}
use Rattle.cache_key.specs.FileKey.{file_key}
use Rattle.store_world.specs.declared.events.StoreEvent.TheVariants as events
use Rattle.store_world.specs.declared.events.StoreReply.{StoreReply}
use Rattle.store_world.specs.StoreMachine.{noted}
use Rattle.store_shared.specs.Caller.{knowledge_of, content_of, IsStep}
use Rattle.store_shared.proofs.Knowing.{may_commit, commit_is}
use Rattle.store_shared.proofs.storing.commit.Goals as goal

pub step-requires : goal.step-requires
step-requires g c =
    let caller = g.S.StoreSteps.caller c.args.steps.now in
    record { asks = may_commit (knowledge_of caller) (file_key c.args.bytes.now) (content_of caller) c.args.file.now.value.items c.requires.editing c.requires.right }

pub returns-clause-commit : goal.returns-clause-commit
returns-clause-commit g c =
    let old = g.S.StoreSteps.caller c.args.steps.now in let new = g.S.StoreSteps.caller c.step.new.self in
    let step = subst (λ (reply : StoreReply). IsStep old (noted events.Commit reply) new) (sym c.done_in.ensures) c.step.ensures.step in
    commit_is old new (file_key c.args.bytes.now) c.commits_store.ensures c.args.file.now.value.items c.done_in.result step c.requires.editing
