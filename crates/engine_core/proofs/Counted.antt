-- How many bitmaps the tables have where.
use Rattle.std.proofs.Common.{◌≡◌, ◌+◌, ◌≤◌, List, [], ◌∷◌, length, map, refl, sym, subst, arith}
use Rattle.std.specs.FinMap.{len}
use Rattle.std.proofs.lemmas.List.{length-map}
use Rattle.bitmap_kind.specs.Picture.{BitmapValue}
use Rattle.bitmap_pool.specs.Pool.{Group, pool_count}
use Rattle.bitmap_pool.specs.Numbered.{numbered}
use Rattle.memory_cache.specs.Cache.{number_in}
use Rattle.engine_world.specs.World.{World}
use Rattle.engine_world.specs.Balance.{held_count}
use Rattle.engine_world.specs.Rooms.{FitsRooms}
use Rattle.engine_core.specs.declared.tables.Tables.TheInside.{Inside}
use Rattle.engine_core.specs.TablesView.{resource_in, world_of, AreJoined}
use Rattle.engine_core.proofs.Finding.{len-map_values}

-- a pool of numbers has as many as one of bitmaps
pub count_numbered : (groups : List (Group BitmapValue)) → pool_count (numbered groups) ≡ pool_count groups
count_numbered [] = refl
count_numbered (g ∷ groups) =
    let here : length (map (λ (bitmap : BitmapValue). bitmap.number) g.items) ≡ length g.items = length-map g.items (λ bitmap. bitmap.number) in
    let rest : pool_count (numbered groups) ≡ pool_count groups = count_numbered groups in
    omega (arith, here, rest)

-- A resource is held or cached, and the bitmaps that are anywhere were made.
pub record Counted (s : Inside) : Type 0 where
  pub resources : len s.resources.resources ≡ held_count (world_of s) + length s.cache.items
  pub cached : length (map number_in s.cache.items) ≡ length s.cache.items
  pub pooled : pool_count (numbered s.pool.groups) ≡ pool_count s.pool.groups
  pub kept : s.out + held_count (world_of s) + length s.cache.items + pool_count s.pool.groups ≤ s.next

pub counted : (s : Inside) (w : World) → world_of s ≡ w → AreJoined s → FitsRooms w → Counted s
counted s w seen joined there =
    let fits : FitsRooms (world_of s) = subst FitsRooms (sym seen) there in
    let cached : length (map number_in s.cache.items) ≡ length s.cache.items = length-map s.cache.items number_in in
    let pooled : pool_count (numbered s.pool.groups) ≡ pool_count s.pool.groups = count_numbered s.pool.groups in
    record {
      resources = omega (arith, fits.held, cached, len-map_values resource_in s.resources.resources);
      cached = cached;
      pooled = pooled;
      kept = omega (arith, fits.kept, joined.out, cached, pooled);
    }
