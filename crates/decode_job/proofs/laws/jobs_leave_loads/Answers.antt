use Rattle.decode_job.proofs.Leaving.{jobs_leave_loads, jobs_leave_pictures}
use Rattle.decode_job.proofs.laws.jobs_leave_loads.Goals as goal

pub returns : goal.returns
returns c = record {
  stay = jobs_leave_loads c.calls_tell_what_they_add.ensures.stay;
  stay_ready = jobs_leave_pictures c.calls_tell_what_they_add.ensures.stay_ready;
}
