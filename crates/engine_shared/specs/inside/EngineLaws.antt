-- The laws of the engine's world and of histories that the laws of callers follow from. They are those of engine_world and
-- of state_machine.
use Rattle.state_machine.specs.Laws.{OwnEntriesAppend, StepsJoin, HistoriesGrow}
use Rattle.engine_world.specs.declared.events.Event.{Event}
use Rattle.engine_world.specs.declared.events.Note.{Note}
use Rattle.engine_world.specs.Laws.{KeepsOpening, ReadyShowsItsKey, HistoriesAreSound, HistoriesKeepHolds}
use Rattle.engine_core.specs.declared.replies.Reply.{Reply}
use Rattle.engine_core.specs.CoreView.{CoreValue}
use Rattle.engine_shared.specs.Caller.{engine}

pub record EngineLaws : Type 0 where
  pub sound : HistoriesAreSound CoreValue Reply
  pub holds : HistoriesKeepHolds CoreValue Reply
  pub shows : ReadyShowsItsKey
  pub opening : (event : Event) → KeepsOpening event
  pub own : OwnEntriesAppend Note
  pub join : StepsJoin engine
  pub grow : HistoriesGrow engine
