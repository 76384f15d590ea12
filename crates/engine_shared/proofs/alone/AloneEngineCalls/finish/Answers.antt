use Rattle.std.proofs.Common.{sym}
use Rattle.engine_shared.proofs.alone.AloneEngineCalls.finish.Goals as goal

pub step-reply-requires-clause-permits : goal.step-reply-requires-clause-permits
step-reply-requires-clause-permits c = (record { job = c.args.pass; is = c.requires.job; number = sym c.number.ensures }, c.requires.result, c.requires.picture)
