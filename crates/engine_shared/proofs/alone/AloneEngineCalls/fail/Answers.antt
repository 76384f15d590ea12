use Rattle.std.proofs.Common.{sym}
use Rattle.engine_shared.proofs.alone.AloneEngineCalls.fail.Goals as goal

pub step-requires-clause-permits : goal.step-requires-clause-permits
step-requires-clause-permits c = (record { job = c.args.pass; is = c.requires.job; number = sym c.number.ensures }, c.requires.none_out, c.requires.cause)
