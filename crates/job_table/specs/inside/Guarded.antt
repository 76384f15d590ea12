-- What the table of a test keeps, so that each of its calls may be made: room for 100 jobs, of which no more than that
-- are added. This project's own.
use Rattle.std.specs.Prelude.{◌≡◌, ℕ, ◌≤◌}
use Rattle.std.specs.FinMap.{len}
use Rattle.job_table.specs.Jobs.{JobTableValue}

pub record HasRoom (table : JobTableValue) (added : ℕ) : Type 0 where
  pub room : table.room ≡ 100
  pub few : len table.jobs ≤ added
  pub counted : table.added ≡ added
  pub limit : added ≤ 100
