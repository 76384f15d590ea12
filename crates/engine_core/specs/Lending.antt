-- What the moves that lend a bitmap and that take one back ask of the world. It is this project's own.
use Rattle.std.specs.Prelude.{◌≡◌, ℕ, ◌+◌, ◌<◌, Bool, None, length, Some}
use Rattle.std.specs.FinMap.{get, len}
use Rattle.std.specs.FinSet as set
use Rattle.bitmap_kind.specs.Picture.{BitmapValue}
use Rattle.cache_key.specs.Key.{Key}
use Rattle.engine_world.specs.World.{Job, Resource, World}
use Rattle.engine_world.specs.Places.{occurrences}
use Rattle.engine_world.specs.Moves.{without_lent}
use Rattle.engine_world.specs.Balance.{out_count}
use Rattle.engine_world.specs.Sound.{ActiveAre}
use Rattle.engine_world.specs.Rooms.{quota_sum}

-- No count of takes is at the end of its type.
pub record MayCount (w : World) : Type 0 where
  pub next : w.next < 18446744073709551615
  pub takes : w.counts.takes < 18446744073709551615
  pub reused : w.counts.reused < 18446744073709551615
  pub out : out_count w < 18446744073709551615

-- A live job has just one bitmap.
abbrev pub HasOne : World → ℕ → Type 0
HasOne w j = (job : Job) → get w.jobs j ≡ Some job → length job.out ≡ 1

-- A live job has just one bitmap of this number.
abbrev pub HasBitmap : World → ℕ → ℕ → Type 0
HasBitmap w j number = (job : Job) → get w.jobs j ≡ Some job
    → length job.out ≡ length (without_lent number job.out) + 1

-- the resource of a key that a bitmap becomes
abbrev pub resource_by : Key → Bool → BitmapValue → Resource
resource_by key cacheable bitmap = record {
  key = key;
  cacheable = cacheable;
  allocation = bitmap.allocation;
  picture = bitmap.picture;
}

-- There is room for a resource of this number, which none has yet.
pub record HasPlaceFor (w : World) (number : ℕ) : Type 0 where
  pub absent : get w.resources number ≡ None
  pub uncached : occurrences number w.cached ≡ 0
  pub resources : len w.resources < quota_sum w.limits.quotas + 1025
  pub active : set.len w.active < quota_sum w.limits.quotas + 1
  pub apart : ActiveAre w.loads w.resources w.active
