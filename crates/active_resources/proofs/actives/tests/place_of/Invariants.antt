use Rattle.std.proofs.Common.{◌≡◌, drop}
use Rattle.std.specs.Ordering.{nat_cmp}
use Rattle.std.specs.FinMap.{find}
use Rattle.active_resources.proofs.actives.tests.place_of.Given as goal

-- it is not among those that the loop has passed
abbrev pub invariant-loop-i : goal.invariant-loop-i
invariant-loop-i l = find nat_cmp l.number (drop l.i l.entries) ≡ find nat_cmp l.number l.entries
