use Rattle.engine_views.specs.JobRuns.{worker}
use Rattle.engine_views.specs.inside.Running.{live_jobs}
use Rattle.engine_views.proofs.Running.{SoFar}
use Rattle.engine_views.proofs.jobs.run_jobs.Given as goal

abbrev pub invariant-jobs : goal.invariant-jobs
invariant-jobs g l = SoFar g.S.Source l.wanting (worker (g.E.EngineCalls.caller l.fn.engine) l.fn.source) (worker (g.E.EngineCalls.caller l.engine) l.source)

abbrev pub decreases-jobs : goal.decreases-jobs
decreases-jobs g l = live_jobs (g.E.EngineCalls.caller l.engine).world
