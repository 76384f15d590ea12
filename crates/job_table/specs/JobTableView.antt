-- How the fields of a table are seen. It is this project's own, as the fields are.
use Rattle.std.specs.Prelude.{◌≡◌, ℕ, ◌≤◌, T, false, length, Some, vec_capacity}
use Rattle.std.specs.Ordering.{nat_cmp}
use Rattle.std.specs.FinMap.{get, from_sorted, is_sorted}
use Rattle.finite_maps.specs.SortedEntries.{all_below}
use Rattle.job_table.specs.declared.jobs.Job.{Job}
use Rattle.job_table.specs.declared.jobs.JobTable.TheInside.{Inside}
use Rattle.job_table.specs.Jobs.{Jobs, JobTableValue}

abbrev pub jobs_of : Inside → Jobs
jobs_of s = from_sorted s.jobs.items

abbrev pub value_of : Inside → JobTableValue
value_of s = record { room = s.room; added = s.added; jobs = jobs_of s }

-- Of one key and kind at most one job is not cancelled.
abbrev pub OneOfEach : Jobs → Type 0
OneOfEach jobs = (i j : ℕ) (a b : Job) → get jobs i ≡ Some a → get jobs j ≡ Some b
    → a.cancelled ≡ false → b.cancelled ≡ false
    → a.spec.key ≡ b.spec.key → a.spec.cached ≡ b.spec.cached → i ≡ j

-- Its vector has the jobs in the order of their numbers, and room for as many as it may have.
pub record IsTable (s : Inside) : Type 0 where
  pub sorted : T (is_sorted nat_cmp s.jobs.items)
  pub below : T (all_below nat_cmp s.jobs.items s.added)
  pub few : length s.jobs.items ≤ s.room
  pub reserved : s.room ≤ vec_capacity s.jobs
  pub one : OneOfEach (jobs_of s)
