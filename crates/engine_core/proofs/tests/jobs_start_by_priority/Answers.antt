use Rattle.engine_core.proofs.tests.jobs_start_by_priority.Goals as goal

pub returns : goal.returns
returns c = record { keeps = λ who served. c.next_job-third.ensures.keeps who (c.next_job-second.ensures.keeps who (c.next_job-first.ensures.keeps who served)) }
