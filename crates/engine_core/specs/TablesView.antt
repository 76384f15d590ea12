-- How the engine's tables are seen as its world. It is this project's own, as the tables are.
use Rattle.std.specs.Prelude.{◌≡◌, ℕ, ◌+◌, List, [], ◌∷◌, map, length, Some}
use Rattle.std.specs.FinMap.{get}
use Rattle.finite_maps.specs.Maps.{total, map_values}
use Rattle.engine_resource.specs.Resource.{ResourceValue}
use Rattle.memory_cache.specs.Cache.{number_in, size_in}
use Rattle.bitmap_pool.specs.Numbered.{numbered}
use Rattle.engine_world.specs.World.{Resource, Resources, World}
use Rattle.engine_world.specs.Moves.{table_jobs, size_of}
use Rattle.engine_world.specs.Rooms.{quota_sum}
use Rattle.engine_core.specs.declared.tables.Tables.TheInside.{Inside}

-- a resource of the table as the world has it
abbrev pub resource_in : ResourceValue → Resource
resource_in resource = record {
  key = resource.key;
  cacheable = resource.cacheable;
  allocation = resource.bitmap.allocation;
  picture = resource.bitmap.picture;
}

abbrev pub world_of : Inside → World
world_of s = record {
  loads = s.loads.loads;
  jobs = s.live.value;
  resources = map_values resource_in s.resources.resources;
  active = s.active.numbers;
  cached = map number_in s.cache.items;
  pool = numbered s.pool.groups;
  next = s.next;
  counts = record {
    loads = s.counts.loads;
    active = s.counts.active;
    memory = s.counts.memory;
    joined = s.counts.joined;
    started = s.jobs.added;
    takes = s.counts.takes;
    reused = s.counts.reused;
  };
  begun = s.begun.items;
  limits = record { pool = s.pool.maximum; memory = s.cache.maximum; quotas = s.quotas.items };
  closed = s.closed;
  content = s.told;
}

-- Each cached number stands with the size of its resource.
abbrev pub SizesAre : Resources → List (ℕ × ℕ) → Type 0
SizesAre resources [] = Unit {0}
SizesAre resources (item ∷ items) =
    (size_in item ≡ size_of resources (number_in item)) × SizesAre resources items

-- The tables tell one state: the jobs are those that the table has, the bitmaps that are out are counted,
-- cached sizes are those of the resources, and each table has its room.
pub record AreJoined (s : Inside) : Type 0 where
  pub jobs : s.jobs.jobs ≡ table_jobs s.live.value
  pub out : s.out ≡ total (λ j job. length job.out) s.live.value
  pub counts : (number : ℕ) (resource : ResourceValue) → get s.resources.resources number ≡ Some resource
      → resource.count ≡ 0
  pub sizes : SizesAre (map_values resource_in s.resources.resources) s.cache.items
  pub seats : length s.begun.items ≡ length s.quotas.items
  -- rooms
  pub loads_room : s.loads.room ≡ quota_sum s.quotas.items
  pub jobs_room : s.jobs.room ≡ quota_sum s.quotas.items + length s.quotas.items + 1
  pub resources_room : s.resources.room ≡ quota_sum s.quotas.items + 1025
  pub active_room : s.active.room ≡ quota_sum s.quotas.items + 1
