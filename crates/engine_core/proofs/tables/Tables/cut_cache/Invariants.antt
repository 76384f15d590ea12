use Rattle.std.proofs.Common.{◌≡◌, ◌≤◌, length}
use Rattle.engine_world.specs.Moves.{shrink_cache}
use Rattle.engine_core.specs.Releasing.{AreCached}
use Rattle.engine_core.proofs.tables.Tables.cut_cache.Given as goal

-- what fits in the end is the same after each step
abbrev pub invariant-loop : goal.invariant-loop
invariant-loop l = AreCached l.self × (length l.self.cached ≤ 1024) × (shrink_cache l.size l.self ≡ shrink_cache l.size l.initial.self)

abbrev pub decreases-loop : goal.decreases-loop
decreases-loop l = length l.self.cached
