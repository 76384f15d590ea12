use Rattle.job_table.specs.Jobs.{queued_job}
use Rattle.job_table.proofs.Guards.{room_added}
use Rattle.job_table.proofs.tests.Guarded.add.Goals as goal

pub invariant_of-self : goal.invariant_of-self
invariant_of-self c =
    room_added c.self.inside.table c.self.inside.added c.self.invariant (queued_job c.args.spec) c.add.new.self c.if-self-ge100.false c.add.ensures.added
