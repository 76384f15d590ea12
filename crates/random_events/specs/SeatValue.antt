-- What contracts see of a seat's record. It is this project's own.
use Rattle.std.specs.Prelude.{ℕ, List}
use Rattle.std.specs.declared.option.Option.{Option}
use Rattle.random_events.specs.declared.seats.ListedLoad.{ListedLoad}
use Rattle.random_events.specs.declared.seats.RunningJob.{RunningJob}

-- how many loads it made that were not Full, those that it has not released, and its job
pub record SeatValue : Type 0 where
  pub begun : ℕ
  pub loads : List ListedLoad
  pub job : Option RunningJob
