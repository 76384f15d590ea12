use Rattle.store_world.specs.Envelopes.{envelope}
use Rattle.store_shared.proofs.Writing.{without_envelope}
use Rattle.store_shared.proofs.storing.fill.Goals as goal

pub returns-in_default-clause-steps : goal.returns-in_default-clause-steps
returns-in_default-clause-steps g c =
    let old = g.S.StoreSteps.caller c.args.steps.now in let new = g.S.StoreSteps.caller c.give_up.new.steps in
    without_envelope old old new (envelope c.args.bytes.now c.args.payload.now) c.give_up.ensures.step
