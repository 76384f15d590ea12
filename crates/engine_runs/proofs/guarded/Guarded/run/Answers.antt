use Rattle.engine_runs.proofs.Guarding.{is_free, ran}
use Rattle.engine_runs.proofs.guarded.Guarded.run.Goals as goal

pub invariant_of-self-2 : goal.invariant_of-self-2
invariant_of-self-2 g c =
    let hs = c.self.inside.holds.items in
    is_free c.run_job.new.engine hs c.take.new.self c.take.ensures.after c.run_job.ensures.over
    (ran c.calls_leave_the_rest.ensures.others c.jobs_leave_loads.ensures.stay c.self.inside.engine c.run_job.new.engine _ _ hs c.run_job.ensures.runs c.self.invariant.loads)
