use Rattle.std.proofs.Common.{◌≡◌, length}
use Rattle.engine_world.specs.Moves.{shrink_cache}
use Rattle.engine_core.specs.Releasing.{AreCached}
use Rattle.engine_core.proofs.tables.Tables.shrink_cache.Given as goal

-- what fits in the end is the same after each step
abbrev pub invariant-loop : goal.invariant-loop
invariant-loop l = AreCached l.self
    × (shrink_cache l.initial.self.limits.memory l.self ≡ shrink_cache l.initial.self.limits.memory l.initial.self)
    × (l.self.limits ≡ l.initial.self.limits)

abbrev pub decreases-loop : goal.decreases-loop
decreases-loop l = length l.self.cached
