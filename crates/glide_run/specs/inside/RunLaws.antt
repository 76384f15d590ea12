-- The laws by which a run of the engine is the walk of its script.
use Rattle.engine_world.specs.Laws.{HistoriesAreSound, HistoriesBalance}
use Rattle.engine_world.specs.RoomLaws.{HistoriesKeepLimits}
use Rattle.engine_core.specs.CoreView.{CoreValue}
use Rattle.engine_core.specs.declared.replies.Reply.{Reply}
use Rattle.script_walk.specs.Laws.{EndsDecide, EndsAtNextGather, NoneCached, BlamesAreEnds, TracesAreOrderly}
use Rattle.fetch_bounds.specs.Parts.{TracesJoin}
use Rattle.fetch_bounds.specs.Answered.{OrdersAreTheTraces, EndsAreAnswered, LinesAreAnswered}
use Rattle.fetch_bounds.specs.OwnMarks.{RunsMarkThemselves}
use Rattle.fetch_bounds.specs.Laws.{RunsAreBounded, FailedJobsSuffice}
use Rattle.fetch_bounds.specs.FailureLaws.{RunsAreBegun, EndsHaveFailures, MarkedBeginsFailed}

-- Those of the walk, of histories that follow it, of what failed in them, and of the engine.
pub record Laws : Type 0 where
  pub decide : EndsDecide
  pub gather : EndsAtNextGather
  pub cached : NoneCached
  pub blames : BlamesAreEnds
  pub orderly : TracesAreOrderly
  pub join : TracesJoin
  pub orders : OrdersAreTheTraces
  pub ends : EndsAreAnswered
  pub lines : LinesAreAnswered
  pub marks : RunsMarkThemselves CoreValue Reply
  pub bounded : RunsAreBounded CoreValue Reply
  pub begun : RunsAreBegun CoreValue Reply
  pub suffice : FailedJobsSuffice CoreValue Reply
  pub failures : EndsHaveFailures CoreValue Reply
  pub marked : MarkedBeginsFailed CoreValue Reply
  pub sound : HistoriesAreSound CoreValue Reply
  pub balanced : HistoriesBalance CoreValue Reply
  pub limits : HistoriesKeepLimits CoreValue Reply
