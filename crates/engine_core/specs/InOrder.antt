-- What the engine's world is after each legal history. It is this project's own.
use Rattle.std.specs.Prelude.{◌≡◌, ℕ, ◌<◌, ◌≤◌, length, None}
use Rattle.std.specs.FinMap.{get, len}
use Rattle.engine_world.specs.World.{World}
use Rattle.engine_world.specs.Moves.{begun_by}
use Rattle.engine_world.specs.Knowledge.{Knowledge}
use Rattle.engine_world.specs.Sound.{Sound}
use Rattle.engine_world.specs.Rooms.{quota_sum, WithinLimits}

-- It is sound for what its seats know, within its limits, and has at most 64 seats.
pub record InOrder (w : World) : Type 0 where
  pub known : ℕ → Knowledge
  pub sound : Sound w known
  pub within : WithinLimits w
  pub seats : length w.limits.quotas ≤ 64

-- A seat may have a load more: its table has room for it, none has its number, and the counts are far from
-- their greatest values.
pub record MayAddLoad (w : World) (who : ℕ) : Type 0 where
  pub room : len w.loads < quota_sum w.limits.quotas
  pub absent : get w.loads (who, begun_by w who) ≡ None
  pub seat : who < length w.begun
  pub count : w.counts.loads < 18446744073709551615
  pub begun : begun_by w who < 18446744073709551615
