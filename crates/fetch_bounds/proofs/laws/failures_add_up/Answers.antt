use Rattle.fetch_bounds.proofs.Failures.{failures_by_entry, failures_go_on, source_runs_add_up}
use Rattle.fetch_bounds.proofs.laws.failures_add_up.Goals as goal

pub returns-clause-longer : goal.returns-clause-longer
returns-clause-longer c = failures_go_on

pub returns-clause-entry : goal.returns-clause-entry
returns-clause-entry c = failures_by_entry

pub returns-clause-runs : goal.returns-clause-runs
returns-clause-runs c = source_runs_add_up
