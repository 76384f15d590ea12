-- What the engine's tables are made with. It is this project's own.
use Rattle.std.specs.Prelude.{◌<◌, ◌≤◌, length}
use Rattle.engine_world.specs.World.{Limits}
use Rattle.engine_world.specs.Rooms.{quota_sum}

-- 1 to 64 seats, which may have at most 8,192 loads together
pub record AreServed (limits : Limits) : Type 0 where
  pub some : 0 < length limits.quotas
  pub seats : length limits.quotas ≤ 64
  pub loads : quota_sum limits.quotas ≤ 8192
