use Rattle.std.proofs.Common.{ℕ, List, length}
use Rattle.disk_lru.specs.State.{entries}
use Rattle.store_world.specs.DiskCalls.{EvictsTo}
use Rattle.disk_store.proofs.disk.evict_all.Given as goal

abbrev pub invariant-over : goal.invariant-over
invariant-over g l = (gone : List (List ℕ)) × EvictsTo gone l.fn.disk l.disk

abbrev pub decreases-over : goal.decreases-over
decreases-over g l = length (entries l.disk.cache)
