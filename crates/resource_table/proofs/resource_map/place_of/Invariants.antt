use Rattle.std.proofs.Common.{◌≡◌, map, drop}
use Rattle.std.specs.Ordering.{nat_cmp}
use Rattle.std.specs.FinMap.{find}
use Rattle.resource_table.specs.ResourceTableView.{entry_of}
use Rattle.resource_table.proofs.resource_map.place_of.Given as goal

-- it is not among those that the loop has passed
abbrev pub invariant-loop-i : goal.invariant-loop-i
invariant-loop-i l = find nat_cmp l.number (map entry_of (drop l.i l.entries)) ≡ find nat_cmp l.number (map entry_of l.entries)
