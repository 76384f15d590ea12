-- Pictures that the engine tells piece by piece, which leave the views as they are.
use Rattle.std.specs.Prelude.{◌≡◌, ℕ, List, ◌++◌}
use Rattle.bitmap_kind.specs.Picture.{Picture}
use Rattle.state_machine.specs.declared.entry.Entry.{Entry}
use Rattle.engine_world.specs.declared.events.Note.{Note}
use Rattle.engine_world.specs.EngineMachine.{opening_of}
use Rattle.engine_shared.specs.Caller.{Caller}
use Rattle.script_walk.specs.Walk.{Outcome, Stage}
use Rattle.fetch_bounds.specs.Follows.{AllWork, IsLookAt, Next, ReadsWhole}
use Rattle.engine_views.specs.Held.{Held}
use Rattle.engine_views.specs.Following.{standing, Follows}
use Rattle.engine_views.specs.JobRuns.{RunsNoJob}

-- Calls were made whose entries are such, and views that stood on a walk stand there still. No job was run.
pub record Asks (held : Held) (Are : List (Entry Note) → Type 0) (old new : Caller) : Type 0 where
  pub later : List (Entry Note)
  pub seen : new.seen ≡ old.seen ++ later
  pub are : Are later
  pub opening : opening_of new.world ≡ opening_of old.world
  pub no_job : RunsNoJob old new
  pub follows : (outcome : Outcome) (s : Stage) → Follows outcome s (standing old held)
      → Follows outcome s (standing new held)

-- The size of a load's picture was told, and then all its stored bytes.
abbrev pub TellsWhole : ℕ → Picture → List (Entry Note) → Type 0
TellsWhole n picture = Next (IsLookAt n picture) (ReadsWhole n picture AllWork)
