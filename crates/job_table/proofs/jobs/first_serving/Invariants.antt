use Rattle.std.proofs.Common.{◌≡◌, drop}
use Rattle.finite_maps.specs.Maps.{first_in}
use Rattle.job_table.specs.Jobs.{serves}
use Rattle.job_table.proofs.jobs.first_serving.Given as goal

-- none of those that the loop has passed will do
abbrev pub invariant-loop-entry : goal.invariant-loop-entry
invariant-loop-entry l = first_in (λ number job. serves l.key l.cached job) (drop l.entry-index l.jobs) ≡ first_in (λ number job. serves l.key l.cached job) l.jobs
