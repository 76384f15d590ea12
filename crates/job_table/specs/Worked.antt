-- Worked examples of the jobs. They are this project's own.
use Rattle.std.specs.Prelude.{◌≡◌, ℕ, Bool, false, List}
use Rattle.std.specs.declared.option.Option.{Option}
use Rattle.std.specs.FinMap.{from_sorted}
use Rattle.cache_key.specs.declared.load_spec.LoadSpec.{LoadSpec}
use Rattle.cache_key.specs.declared.load_spec.Priority.{Priority}
use Rattle.cache_key.specs.declared.load_spec.Strategy.TheVariants.{Automatic}
use Rattle.cache_key.specs.Worked.{red_key}
use Rattle.job_table.specs.declared.jobs.Job.{Job}
use Rattle.job_table.specs.Jobs.{queued_job, run_on, marked, job_for, next_queued, after_cancel}

-- a load of the red picture at this priority
abbrev pub red_load : Priority → LoadSpec
red_load priority = record {
  key = red_key;
  strategy = Automatic;
  priority = priority;
  skip = false;
  cached = false;
}

-- its job in each of its states
abbrev pub waits : Priority → Job
waits priority = queued_job (red_load priority)

abbrev pub runs : Priority → Job
runs priority = run_on 0 (waits priority)

abbrev pub was_cancelled : Priority → Job
was_cancelled priority = marked (runs priority)

-- Of these jobs, in the order of their numbers, this one starts next.
abbrev pub StartsNext : List (ℕ × Job) → Option ℕ → Type 0
StartsNext jobs number = next_queued (from_sorted jobs) ≡ number

-- A load of the red picture of this kind joins this one of them.
abbrev pub Joins : Bool → List (ℕ × Job) → Option ℕ → Type 0
Joins cached jobs number = job_for red_key cached (from_sorted jobs) ≡ number

-- These are left where a number is cancelled.
abbrev pub CancelLeaves : List (ℕ × Job) → ℕ → List (ℕ × Job) → Type 0
CancelLeaves jobs number left = after_cancel (from_sorted jobs) number ≡ from_sorted left
