-- How the fields of a pool are seen. It is this project's own, as the fields are.
use Rattle.std.specs.Prelude.{◌≤◌}
use Rattle.bitmap_pool.specs.Pool.{PoolValue, pool_size, pool_count}
use Rattle.bitmap_pool.specs.declared.pools.Pool.TheInside.{Inside}

abbrev pub value_of : Inside → PoolValue
value_of s = record { maximum = s.maximum; groups = s.groups }

-- After each call a pool is within its limits.
pub record IsWithin (s : Inside) : Type 0 where
  pub size : pool_size s.groups ≤ s.maximum
  pub count : pool_count s.groups ≤ 1024
