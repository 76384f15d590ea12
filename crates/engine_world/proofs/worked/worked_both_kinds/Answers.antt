use Rattle.std.proofs.Common.{refl, inl}
use Rattle.finite_maps.specs.Maps.{total, first_key}
use Rattle.engine_world.proofs.Computing.{items-empty, no_loads, more_loads, no_table_jobs, more_table_jobs, tabled_none, tabled_more, no_jobs, more_jobs, at_job}
use Rattle.engine_world.proofs.worked.worked_both_kinds.Goals as goal

pub returns-clause-first : goal.returns-clause-first
unfolding total first_key
returns-clause-first c = (simp (no_loads, items-empty, tabled_none, no_table_jobs) refl, simp (no_loads, items-empty, tabled_none, no_table_jobs) refl)

pub returns-clause-second : goal.returns-clause-second
unfolding total first_key
returns-clause-second c = (simp (no_loads, items-empty, more_loads, tabled_none, tabled_more, no_table_jobs, more_table_jobs) refl, simp (no_loads, items-empty, more_loads, tabled_none, tabled_more, no_table_jobs, more_table_jobs) refl)

pub returns-clause-first_runs : goal.returns-clause-first_runs
unfolding total first_key
returns-clause-first_runs c = (simp (tabled_none, tabled_more, no_table_jobs, more_table_jobs, at_job, no_jobs, more_jobs) refl, simp (tabled_none, tabled_more, no_table_jobs, more_table_jobs, at_job, no_jobs, more_jobs) refl)

pub returns-clause-second_runs : goal.returns-clause-second_runs
unfolding total first_key
returns-clause-second_runs c = (simp (tabled_none, tabled_more, no_table_jobs, more_table_jobs, at_job, no_jobs, more_jobs) refl, simp (tabled_none, tabled_more, no_table_jobs, more_table_jobs, at_job, no_jobs, more_jobs) refl)

pub returns-clause-first_takes : goal.returns-clause-first_takes
returns-clause-first_takes c = inl (refl, simp (at_job, no_jobs, more_jobs) refl)

pub returns-clause-second_takes : goal.returns-clause-second_takes
returns-clause-second_takes c = inl (refl, simp (at_job, no_jobs, more_jobs) refl)
