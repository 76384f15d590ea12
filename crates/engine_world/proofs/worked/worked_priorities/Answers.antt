use Rattle.std.proofs.Common.{refl}
use Rattle.finite_maps.specs.Maps.{total, first_key}
use Rattle.engine_world.proofs.Computing.{items-empty, no_loads, more_loads, no_table_jobs, more_table_jobs, tabled_none, tabled_more, no_jobs, more_jobs, at_job}
use Rattle.engine_world.proofs.worked.worked_priorities.Goals as goal

pub returns-clause-low : goal.returns-clause-low
unfolding total first_key
returns-clause-low c = (simp (no_loads, items-empty, tabled_none, no_table_jobs) refl, simp (no_loads, items-empty, tabled_none, no_table_jobs) refl)

pub returns-clause-normal : goal.returns-clause-normal
unfolding total first_key
returns-clause-normal c = (simp (no_loads, items-empty, more_loads, tabled_none, tabled_more, no_table_jobs, more_table_jobs) refl, simp (no_loads, items-empty, more_loads, tabled_none, tabled_more, no_table_jobs, more_table_jobs) refl)

pub returns-clause-full : goal.returns-clause-full
unfolding total first_key
returns-clause-full c = (simp (no_loads, items-empty, more_loads) refl, simp (no_loads, items-empty, more_loads) refl)

pub returns-clause-higher : goal.returns-clause-higher
unfolding total first_key
returns-clause-higher c = (simp (tabled_none, tabled_more, no_table_jobs, more_table_jobs, at_job, no_jobs, more_jobs) refl, simp (tabled_none, tabled_more, no_table_jobs, more_table_jobs, at_job, no_jobs, more_jobs) refl)

pub returns-clause-lower : goal.returns-clause-lower
unfolding total first_key
returns-clause-lower c = (simp (tabled_none, tabled_more, no_table_jobs, more_table_jobs, at_job, no_jobs, more_jobs) refl, simp (tabled_none, tabled_more, no_table_jobs, more_table_jobs, at_job, no_jobs, more_jobs) refl)

pub returns-clause-none : goal.returns-clause-none
unfolding total first_key
returns-clause-none c = (simp (tabled_none, tabled_more, no_table_jobs, more_table_jobs) refl, simp (tabled_none, tabled_more, no_table_jobs, more_table_jobs) refl)
