-- The laws of other crates that the moves of views stand on.
use Rattle.engine_world.specs.declared.events.Event.{Event}
use Rattle.engine_world.specs.Laws.{KeepsOpening}
use Rattle.engine_shared.specs.CallLaws.{LoadsStay, ReadyLoadsStay, JobsStay}
use Rattle.fetch_bounds.specs.Parts.{TracesJoin}
use Rattle.fetch_bounds.specs.FailureLaws.{FailuresByEntry, SourceRunsAddUp}

pub record ViewLaws : Type 0 where
  pub opening : (event : Event) → KeepsOpening event
  pub stay : LoadsStay
  pub stay_ready : ReadyLoadsStay
  pub jobs : JobsStay
  pub join : TracesJoin
  pub failures : FailuresByEntry
  pub runs : SourceRunsAddUp
