use Rattle.fetch_bounds.proofs.Shares.{shared_loads_start_no_job}
use Rattle.fetch_bounds.proofs.Keeping.{opens_findable, keeps_findable}
use Rattle.fetch_bounds.proofs.laws.loads_are_shared.Goals as goal

pub returns-clause-shared : goal.returns-clause-shared
returns-clause-shared c = shared_loads_start_no_job

pub returns-clause-opening : goal.returns-clause-opening
returns-clause-opening c = opens_findable

pub returns-clause-event : goal.returns-clause-event
returns-clause-event c = keeps_findable
