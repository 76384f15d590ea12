-- What running all queued jobs leaves.
use Rattle.std.specs.Prelude.{◌≡◌, ℕ, Bool, List, ◌++◌, Some, None}
use Rattle.std.specs.FinMap.{get}
use Rattle.outside.specs.declared.sources.Source as sources
use Rattle.state_machine.specs.declared.entry.Entry.{Entry}
use Rattle.finite_maps.specs.Maps.{total}
use Rattle.load_table.specs.declared.loads.LoadState.TheVariants.{Waiting}
use Rattle.engine_world.specs.declared.events.Note.{Note}
use Rattle.engine_world.specs.World.{World}
use Rattle.engine_world.specs.EngineMachine.{opening_of}
use Rattle.engine_world.specs.Permits.{IsOwnReady}
use Rattle.engine_shared.specs.Caller.{Caller, knowledge_of, content_of, picture_held}
use Rattle.fetch_bounds.specs.Follows.{AllWork}
use Rattle.engine_views.specs.Owner.{IsOwner}
use Rattle.engine_views.specs.JobRuns.{Worker, RunsJobs}

-- how many jobs are live
abbrev pub live_jobs : World → ℕ
live_jobs w = total (λ j job. 1) w.jobs

-- None of the caller's loads waits on a job.
abbrev pub NoneWaits : Caller → Type 0
NoneWaits c = (n j : ℕ) → get c.world.loads (c.who, n) ≡ Some (Waiting j) → ⊥

module _ {S : Type 0} (source : sources.Ghosts S) where
  -- The engine's only caller ran all jobs that were queued. Its loads are as they were, and none waits any more.
  pub record HasRun (wanting : Bool) (old new : Worker S) : Type 0 where
    pub owner : IsOwner new.caller
    pub idle : (knowledge_of new.caller).job ≡ None
    pub begun : (knowledge_of new.caller).begun ≡ (knowledge_of old.caller).begun
    pub loads : (knowledge_of new.caller).loads ≡ (knowledge_of old.caller).loads
    pub pictures : (n : ℕ) → IsOwnReady (knowledge_of old.caller) n
        → picture_held new.caller n ≡ picture_held old.caller n
    pub content : content_of new.caller ≡ content_of old.caller
    pub later : List (Entry Note)
    pub seen : new.caller.seen ≡ old.caller.seen ++ later
    pub work : AllWork later
    pub opening : opening_of new.caller.world ≡ opening_of old.caller.world
    pub none_waits : NoneWaits new.caller
    pub jobs : RunsJobs source wanting old new
