use Rattle.std.proofs.Common.{sym}
use Rattle.engine_shared.proofs.alone.AloneEngineCalls.give_back.Goals as goal

pub step-requires-clause-permits : goal.step-requires-clause-permits
step-requires-clause-permits c = (record { job = c.args.pass.now; is = c.requires.job; number = sym c.number.ensures }, c.requires.lent)
