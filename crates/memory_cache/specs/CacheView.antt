-- How the fields of a cache are seen. It is this project's own, as the fields are.
use Rattle.std.specs.Prelude.{◌≤◌, length, vec_capacity}
use Rattle.memory_cache.specs.Cache.{CacheValue}
use Rattle.memory_cache.specs.declared.caches.Cache.TheInside.{Inside}

abbrev pub value_of : Inside → CacheValue
value_of s = record { maximum = s.maximum; items = s.items.items }

-- Its vector has room for one item more than it may keep, since a put may leave one more.
pub record HasRoom (s : Inside) : Type 0 where
  pub few : length s.items.items ≤ 1025
  pub reserved : 1025 ≤ vec_capacity s.items
