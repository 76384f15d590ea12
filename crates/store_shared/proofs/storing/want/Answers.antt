use Rattle.store_world.specs.declared.events.StoreReply.TheVariants as replies
use Rattle.store_shared.proofs.Writing.{want_is}
use Rattle.store_shared.proofs.storing.want.Goals as goal

pub returns-in-Done : goal.returns-in-Done
returns-in-Done g c = want_is (g.S.StoreSteps.caller c.args.steps.now) (g.S.StoreSteps.caller c.step.new.self) c.args.bytes.now c.args.payload.now c.safe_key.result replies.Done c.safe_key.ensures c.in-Done.ensures.step

pub returns-in-Off : goal.returns-in-Off
returns-in-Off g c = want_is (g.S.StoreSteps.caller c.args.steps.now) (g.S.StoreSteps.caller c.step.new.self) c.args.bytes.now c.args.payload.now c.safe_key.result replies.Off c.safe_key.ensures c.in-Off.ensures.step

pub returns-in-TooLarge : goal.returns-in-TooLarge
returns-in-TooLarge g c = want_is (g.S.StoreSteps.caller c.args.steps.now) (g.S.StoreSteps.caller c.step.new.self) c.args.bytes.now c.args.payload.now c.safe_key.result replies.TooLarge c.safe_key.ensures c.in-TooLarge.ensures.step
