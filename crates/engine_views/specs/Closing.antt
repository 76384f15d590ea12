-- How the loads that are held come to an end with the script. This project's own.
use Rattle.std.specs.Prelude.{◌≡◌, List, [], ◌∷◌, ◌++◌, ⊤}
use Rattle.state_machine.specs.declared.entry.Entry.{Entry}
use Rattle.engine_world.specs.declared.events.Event.TheVariants as events
use Rattle.engine_world.specs.declared.events.Note.{Note}
use Rattle.engine_world.specs.EngineMachine.{opening_of}
use Rattle.engine_shared.specs.Tokens.{HoldValue}
use Rattle.engine_shared.specs.Caller.{Caller}
use Rattle.script_walk.specs.Walk.{Begin, Outcome, Stage, closing}
use Rattle.fetch_bounds.specs.Follows as followed
use Rattle.engine_views.specs.Held.{loads_in}
use Rattle.engine_views.specs.Owner.{HasJust}
use Rattle.engine_views.specs.Following.{Standing, Follows}
use Rattle.engine_views.specs.JobRuns.{RunsNoJob}

-- These entries are seat 0's releases of these loads, in order.
abbrev pub AreReleases : List HoldValue → List (Entry Note) → Type 0
AreReleases [] [] = ⊤
AreReleases (load ∷ loads) (e ∷ es) =
    (e.by ≡ 0) × (e.note.event ≡ events.Release load.number) × AreReleases loads es
AreReleases loads es = ⊥

-- All these loads were released, and the caller has none any more.
pub record Closes (loads : List HoldValue) (old new : Caller) : Type 0 where
  pub just : HasJust new []
  pub later : List (Entry Note)
  pub seen : new.seen ≡ old.seen ++ later
  pub releases : AreReleases loads later
  pub opening : opening_of new.world ≡ opening_of old.world
  pub no_job : RunsNoJob old new

-- Where views stand on a walk, the releases of what they hold are what happens where the walk ends.
abbrev pub ReleasesEndWalks : Type 0
ReleasesEndWalks = (outcome : Outcome) (s : Stage) (at : Standing) (begun : List Begin) (later : List (Entry Note))
    → Follows outcome s at → AreReleases (loads_in at.held.holds) later
    → followed.Follows begun (closing s) later
