use Rattle.std.proofs.Common.{◌≡◌, drop}
use Rattle.finite_maps.specs.Maps.{first_in}
use Rattle.job_table.specs.Jobs.{is_queued_at}
use Rattle.job_table.proofs.jobs.first_queued_at.Given as goal

-- none of those that the loop has passed will do
abbrev pub invariant-loop-entry : goal.invariant-loop-entry
invariant-loop-entry l = first_in (λ number job. is_queued_at l.priority job) (drop l.entry-index l.jobs) ≡ first_in (λ number job. is_queued_at l.priority job) l.jobs
