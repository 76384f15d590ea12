-- Calls that leave the views as they are. This project's own.
use Rattle.std.specs.Prelude.{◌≡◌, List, [], ◌∷◌, ◌++◌, length, ⊤}
use Rattle.engine_world.specs.declared.events.Event.{Event}
use Rattle.engine_world.specs.declared.events.Event.TheVariants as events
use Rattle.engine_world.specs.declared.events.NotedReply.{NotedReply}
use Rattle.engine_world.specs.EngineMachine.{opening_of}
use Rattle.engine_world.specs.Steps.{Transition}
use Rattle.engine_shared.specs.Caller.{Caller, entry_of, IsCall}
use Rattle.script_walk.specs.Walk.{Outcome, Stage}
use Rattle.engine_views.specs.Held.{Held}
use Rattle.engine_views.specs.Owner.{IsOwner}
use Rattle.engine_views.specs.Following.{standing, Follows}
use Rattle.engine_views.specs.JobRuns.{RunsNoJob}

-- The event asks how things stand, or trims memory: no load comes or goes, and no job is run.
abbrev pub IsQuiet : Event → Type 0
IsQuiet (events.Look n) = ⊤
IsQuiet (events.Read n at) = ⊤
IsQuiet (events.Trim level) = ⊤
IsQuiet events.Totals = ⊤
IsQuiet event = ⊥

-- Its entry alone was added, and views that stood on a walk stand there still.
pub record LeavesViews (held : Held) (event : Event) (reply : NotedReply) (old new : Caller) : Type 0 where
  pub seen : new.seen ≡ old.seen ++ entry_of old event reply ∷ []
  pub opening : opening_of new.world ≡ opening_of old.world
  pub no_job : RunsNoJob old new
  pub follows : (outcome : Outcome) (s : Stage) → Follows outcome s (standing old held)
      → Follows outcome s (standing new held)

abbrev pub QuietCallsLeaveViews : Type 0
QuietCallsLeaveViews = (held : Held) (event : Event) (reply : NotedReply) (old new : Caller)
    → IsQuiet event → IsOwner old → IsCall old event reply new → LeavesViews held event reply old new

-- ---- any call of the only caller

-- The call added its own entry alone, by one step of the engine.
pub record AddsItsEntry (event : Event) (reply : NotedReply) (old new : Caller) : Type 0 where
  pub step : Transition old.world old.who event reply new.world
  pub seen : new.seen ≡ old.seen ++ entry_of old event reply ∷ []
  pub opening : opening_of new.world ≡ opening_of old.world

-- So does each call of a caller to whom the engine's one seat belongs, open or closed.
abbrev pub OnlyCallersAddTheirEntries : Type 0
OnlyCallersAddTheirEntries = (event : Event) (reply : NotedReply) (old new : Caller)
    → old.who ≡ 0 → length old.world.limits.quotas ≡ 1 → IsCall old event reply new
    → AddsItsEntry event reply old new
