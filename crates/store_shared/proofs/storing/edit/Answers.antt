use Rattle.std.proofs.Common.{[], ◌∷◌, sym, subst}
use Rattle.cache_key.specs.FileKey.{file_key}
use Rattle.store_world.specs.declared.events.StoreEvent.TheVariants as events
use Rattle.store_world.specs.declared.events.StoreReply.TheVariants as replies
use Rattle.store_world.specs.Envelopes.{envelope}
use Rattle.store_world.specs.StoreMachine.{noted}
use Rattle.store_shared.specs.declared.answers.Stored.{Stored}
use Rattle.store_shared.specs.Caller.{MadeSteps}
use Rattle.store_shared.specs.Answers.{Edits}
use Rattle.store_shared.proofs.Chained.{one_step}
use Rattle.store_shared.proofs.Writing.{is_there, not_begun, with_edit, stored_later}
use Rattle.store_shared.proofs.storing.edit.Goals as goal

pub returns-in-Already-clause-steps : goal.returns-in-Already-clause-steps
returns-in-Already-clause-steps g c =
    let old = g.S.StoreSteps.caller c.args.steps.now in let new = g.S.StoreSteps.caller c.step.new.self in
    is_there old old new (envelope c.args.bytes.now c.args.payload.now) c.in-Already.ensures.step

pub returns-in-Done-clause-steps : goal.returns-in-Done-clause-steps
returns-in-Done-clause-steps g c =
    let old = g.S.StoreSteps.caller c.args.steps.now in let between = g.S.StoreSteps.caller c.step.new.self in let new = g.S.StoreSteps.caller c.fill.new.steps in
    with_edit old between new (envelope c.args.bytes.now c.args.payload.now) c.fill.result c.in-Done.ensures.step c.fill.ensures.steps

pub returns-in-Done-clause-stored : goal.returns-in-Done-clause-stored
returns-in-Done-clause-stored g c is =
    let old = g.S.StoreSteps.caller c.args.steps.now in let between = g.S.StoreSteps.caller c.step.new.self in let new = g.S.StoreSteps.caller c.fill.new.steps in
    let note = noted events.Begin replies.Done in
    stored_later old between new (note ∷ []) (file_key c.args.bytes.now, envelope c.args.bytes.now c.args.payload.now) (one_step old between note c.in-Done.ensures.step) (c.fill.ensures.stored is)

pub returns-in-Fault-clause-steps : goal.returns-in-Fault-clause-steps
returns-in-Fault-clause-steps g c =
    let old = g.S.StoreSteps.caller c.args.steps.now in let new = g.S.StoreSteps.caller c.step.new.self in let file = envelope c.args.bytes.now c.args.payload.now in
    subst (λ (answer : Stored). MadeSteps (Edits file answer) old new) (sym c.failed_by.ensures) (not_begun old old new file c.in-Fault.fault c.in-Fault.ensures.step)
