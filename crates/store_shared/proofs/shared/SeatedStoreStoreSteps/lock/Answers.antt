use Rattle.std.proofs.Common.{sym, subst}
use Rattle.store_shared.specs.Caller.{Caller}
use Rattle.store_shared.specs.Seated.{Waited}
use Rattle.store_shared.proofs.Seating.{waited_more, waited_enough}
use Rattle.store_shared.proofs.shared.SeatedStoreStoreSteps.lock.Goals as goal

pub returns-then-is_granted-clause-steps : goal.returns-then-is_granted-clause-steps
returns-then-is_granted-clause-steps g c = waited_enough c.args.self.now c.loop.self c.is_granted.new.self c.loop.invariant.waited c.if-is_granted.ensures.step

pub loop-preserved : goal.loop-preserved
loop-preserved g c =
    let more = waited_more c.args.self.now c.loop.self c.is_granted.new.self c.loop.invariant.waited c.if-is_granted.ensures.step in
    record { next = tt; finite = tt; waited = subst (λ (now : Caller). Waited c.args.self.now now) (sym c.wait_news.ensures) more }
