-- What a gather does to the views, the engine and the source. This project's own, in the words of the walk and of the engine.
use Rattle.std.specs.Prelude.{◌≡◌, ℕ, ◌+◌, ◌<◌, Bool, List, Ok, Result}
use Rattle.std.specs.declared.option.Option.{Option}
use Rattle.outside.specs.Content.{Contents}
use Rattle.outside.specs.declared.sources.Source as sources
use Rattle.bitmap_kind.specs.Picture.{Picture}
use Rattle.load_cause.specs.declared.causes.Cause.{Cause}
use Rattle.engine_world.specs.Permits.{IsPicture}
use Rattle.engine_shared.specs.Caller.{Caller, content_of}
use Rattle.script_walk.specs.Walk.{Begin, Outcome, Stage, gathered, gather_events}
use Rattle.script_walk.specs.Laws.{EachEnd}
use Rattle.engine_views.specs.Held.{Held}
use Rattle.engine_views.specs.Owner.{Adds}
use Rattle.engine_views.specs.Following.{Standing, standing, Follows}
use Rattle.engine_views.specs.JobRuns.{Worker, worker, RunsJobs}

-- The picture that a begin came to is that of its key, where the content is known.
abbrev pub IsRight : Option Contents → Begin → Result Picture Cause → Type 0
IsRight content begin result = (picture : Picture) → result ≡ Ok picture → IsPicture content begin.spec.key picture

-- The begin came after so many gathers.
abbrev pub CameAfter : ℕ → Begin → Result Picture Cause → Type 0
CameAfter gathers begin result = begin.gathers ≡ gathers

-- These outcomes agree on each begin that came before the last of so many gathers.
abbrev pub AgreeBefore : ℕ → Outcome → Outcome → Type 0
AgreeBefore gathers old new = (begin : Begin) → begin.gathers < gathers → new begin ≡ old begin

-- where a walk stands after a gather
abbrev pub gathered_stage : Outcome → Stage → Stage
gathered_stage outcome s = record s { views = gathered outcome s.views; gathers = s.gathers + 1 }

-- the engine's caller, the source and the views at one moment
pub record Moment (S : Type 0) : Type 0 where
  pub worker : Worker S
  pub held : Held

abbrev pub moment : {S : Type 0} → Caller → S → Held → Moment S
moment caller source held = record { worker = worker caller source; held = held }

abbrev pub stands : {S : Type 0} → Moment S → Standing
stands at = standing at.worker.caller at.held

module _ {S : Type 0} (source : sources.Ghosts S) where
  -- A gather where the walk stands at this stage. All queued jobs were run, and each begin that ran came to what the engine then
  -- answered for its load. What earlier begins came to stays.
  pub record IsGathered (wanting : Bool) (outcome : Outcome) (s : Stage) (old new : Moment S) : Type 0 where
    pub next : Outcome
    pub known : AgreeBefore s.gathers outcome next
    pub follows : Follows next (gathered_stage next s) (stands new)
    pub adds : (begun : List Begin) → Adds old.worker.caller new.worker.caller begun (gather_events next s.views)
    pub begins : EachEnd (CameAfter s.gathers) (gather_events next s.views)
    pub right : EachEnd (IsRight (content_of old.worker.caller)) (gather_events next s.views)
    pub jobs : RunsJobs source wanting old.worker new.worker

  -- The views were gathered: wherever they stood on a walk.
  abbrev pub Gathers : Bool → Moment S → Moment S → Type 0
  Gathers wanting old new = (outcome : Outcome) (s : Stage) → Follows outcome s (stands old)
      → IsGathered wanting outcome s old new
