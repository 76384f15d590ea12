use Rattle.std.proofs.Common.{◌≡◌, ◌*◌, ◌^◌, ◌≤◌, take, sum_by}
use Rattle.memory_cache.specs.Cache.{size_in}
use Rattle.memory_cache.proofs.caches.total_of.Given as goal

abbrev pub invariant-loop-item : goal.invariant-loop-item
invariant-loop-item l = (l.total ≡ sum_by size_in (take l.item-index l.items)) × (l.total ≤ l.item-index * 2 ^ 64)
