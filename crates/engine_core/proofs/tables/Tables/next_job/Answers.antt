use Rattle.engine_core.proofs.Joins.{next_is_queued}
use Rattle.engine_core.proofs.tables.Tables.next_job.Goals as goal

pub start-requires : goal.start-requires
start-requires c = next_is_queued c.self.inside c.args.self.now c.in-Some.job c.self.invariant c.self.view_is ((c.next_queued.ensures.it c.in-Some.job).0 c.in-Some.is)
