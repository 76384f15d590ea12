use Rattle.engine_shared.proofs.Counting.{loads_are_counted, others_count_none, jobs_stay, jobs_end}
use Rattle.engine_shared.proofs.laws.calls_leave_the_rest.Goals as goal

pub returns : goal.returns
returns c = record { counts = loads_are_counted; others = others_count_none; stay = jobs_stay; end = jobs_end }
