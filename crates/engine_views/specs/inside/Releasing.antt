-- The loads that are held, as they are released one after the other.
use Rattle.std.specs.Prelude.{◌≡◌, List, ◌++◌}
use Rattle.state_machine.specs.declared.entry.Entry.{Entry}
use Rattle.engine_world.specs.declared.events.Note.{Note}
use Rattle.engine_world.specs.EngineMachine.{opening_of}
use Rattle.engine_shared.specs.Tokens.{HoldValue}
use Rattle.engine_shared.specs.Caller.{Caller}
use Rattle.engine_views.specs.Owner.{HasJust}
use Rattle.engine_views.specs.JobRuns.{RunsNoJob}
use Rattle.engine_views.specs.Closing.{AreReleases}

-- Of all these loads the first were released, and these are left.
pub record AreReleasedTo (all left : List HoldValue) (old new : Caller) : Type 0 where
  pub done : List HoldValue
  pub parts : all ≡ done ++ left
  pub just : HasJust new left
  pub later : List (Entry Note)
  pub seen : new.seen ≡ old.seen ++ later
  pub releases : AreReleases done later
  pub opening : opening_of new.world ≡ opening_of old.world
  pub no_job : RunsNoJob old new
