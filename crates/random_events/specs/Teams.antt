-- The records of four seats. It is this project's own.
use Rattle.engine_core.specs.CoreView.{CoreValue}
use Rattle.random_events.specs.declared.runs.Team.{Team}
use Rattle.random_events.specs.Seats.{no_record, IsSeatOf}

abbrev pub no_records : Team
no_records = record { first = no_record; second = no_record; third = no_record; fourth = no_record }

-- The core serves these seats, and these are their records.
pub record AreSeatsOf (core : CoreValue) (team : Team) : Type 0 where
  pub first : IsSeatOf core 0 team.first
  pub second : IsSeatOf core 1 team.second
  pub third : IsSeatOf core 2 team.third
  pub fourth : IsSeatOf core 3 team.fourth
