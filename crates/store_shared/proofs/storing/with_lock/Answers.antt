use Rattle.std.proofs.Common.{sym, subst}
use Rattle.std.specs.declared.option.Option.{Option}
use Rattle.outside.specs.Content.{Contents}
use Rattle.cache_key.specs.FileKey.{file_key}
use Rattle.store_world.specs.declared.events.StoreEvent.TheVariants as events
use Rattle.store_world.specs.declared.events.StoreReply.TheVariants as replies
use Rattle.store_world.specs.Envelopes.{envelope}
use Rattle.store_world.specs.Right.{Pair, IsRightIn}
use Rattle.store_world.specs.StoreMachine.{noted}
use Rattle.store_shared.proofs.Chained.{content_along}
use Rattle.store_shared.proofs.Writing.{under_lock, stored_later, stored_before}
use Rattle.store_shared.proofs.storing.with_lock.Goals as goal

pub edit-answer-requires-clause-right : goal.edit-answer-requires-clause-right
edit-answer-requires-clause-right g c =
    let old = g.S.StoreSteps.caller c.args.steps.now in let new = g.S.StoreSteps.caller c.lock.new.self in
    subst (λ (told : Option Contents). IsRightIn told (file_key c.args.bytes.now, envelope c.args.bytes.now c.args.payload.now))
    (sym (content_along old new c.lock.ensures.steps.0 c.lock.ensures.steps.2)) c.requires.right

pub returns-clause-steps : goal.returns-clause-steps
returns-clause-steps g c =
    let old = g.S.StoreSteps.caller c.args.steps.now in let locked = g.S.StoreSteps.caller c.lock.new.self in
    let edited = g.S.StoreSteps.caller c.edit-answer.new.steps in let new = g.S.StoreSteps.caller c.leave.new.steps in
    under_lock old locked edited new (envelope c.args.bytes.now c.args.payload.now) c.edit-answer.result c.lock.ensures.steps c.edit-answer.ensures.steps c.leave.ensures.step

pub returns-clause-stored : goal.returns-clause-stored
returns-clause-stored g c is =
    let old = g.S.StoreSteps.caller c.args.steps.now in let locked = g.S.StoreSteps.caller c.lock.new.self in
    let edited = g.S.StoreSteps.caller c.edit-answer.new.steps in let new = g.S.StoreSteps.caller c.leave.new.steps in
    let pair : Pair = (file_key c.args.bytes.now, envelope c.args.bytes.now c.args.payload.now) in
    stored_later old locked new c.lock.ensures.steps.0 pair c.lock.ensures.steps.2
    (stored_before locked edited new (noted events.Done replies.Done) pair (c.edit-answer.ensures.stored is) c.leave.ensures.step)
