-- What holds before and after an event of a seat's job. It is this project's own.
use Rattle.std.specs.Prelude.{◌≡◌, ℕ, ◌<◌, List, length, None}
use Rattle.std.specs.declared.option.Option.{Option}
use Rattle.bitmap_kind.specs.Picture.{BitmapValue}
use Rattle.engine_world.specs.declared.events.Lent.{Lent}
use Rattle.engine_world.specs.Moves.{without_lent}
use Rattle.engine_world.specs.Knowledge.{Knowledge, knowledge_in}
use Rattle.engine_world.specs.Permits.{IsRunning, IsAmongLent, IsResult}
use Rattle.engine_core.specs.CoreView.{CoreValue}
use Rattle.random_events.specs.declared.seats.Taken.{Taken}
use Rattle.random_events.specs.declared.seats.RunningJob.{RunningJob}
use Rattle.random_events.specs.Seats.{AreLent, JobIs, IsActOf}

-- The core serves this seat, no content is known, and this is what the seat knows of its job.
pub record IsJobOf (core : CoreValue) (who : ℕ) (job : Option RunningJob) : Type 0 where
  pub served : who < length core.world.limits.quotas
  pub untold : core.world.content ≡ None
  pub is : JobIs job (knowledge_in core.history who).job

-- The seat knows this of its job by now, and of its loads what it knew.
pub record IsJobAct (who : ℕ) (old new : CoreValue) (job : Option RunningJob) : Type 0 where
  pub acts : IsActOf who old new
  pub begun : (knowledge_in new.history who).begun ≡ (knowledge_in old.history who).begun
  pub loads : (knowledge_in new.history who).loads ≡ (knowledge_in old.history who).loads
  pub is : JobIs job (knowledge_in new.history who).job

-- This bitmap is what the seat's job may finish with.
abbrev pub IsResultOf : Knowledge → ℕ → BitmapValue → Type 0
IsResultOf known number bitmap = (run : IsRunning known number) × IsResult bitmap run.job.out

-- Of the bitmaps of a job this one goes, and the others stay.
abbrev pub Splits : Taken → Taken → BitmapValue → Type 0
Splits taken left going = (out : List Lent) → AreLent taken out
    → IsAmongLent going out × AreLent left (without_lent going.number out)
