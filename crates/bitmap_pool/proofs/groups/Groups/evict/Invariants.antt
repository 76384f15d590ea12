use Rattle.std.proofs.Common.{◌≡◌, ◌+◌, length}
use Rattle.bitmap_pool.specs.Pool.{pool_count, pool_trim}
use Rattle.bitmap_pool.proofs.groups.Groups.evict.Given as goal

-- what stays in the end is the same
abbrev pub invariant-loop-self : goal.invariant-loop-self
invariant-loop-self l = pool_trim l.room l.self ≡ pool_trim l.room l.initial.self

abbrev pub decreases-loop-self : goal.decreases-loop-self
decreases-loop-self l = length l.self + pool_count l.self
