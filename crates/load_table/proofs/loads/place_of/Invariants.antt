use Rattle.std.proofs.Common.{◌≡◌, map, drop}
use Rattle.std.specs.FinMap.{find}
use Rattle.load_table.specs.Loads.{load_cmp}
use Rattle.load_table.specs.LoadsView.{entry_of}
use Rattle.load_table.proofs.loads.place_of.Given as goal

-- it is not among those that the loop has passed
abbrev pub invariant-loop-i : goal.invariant-loop-i
invariant-loop-i g l = find load_cmp (l.owner, l.number) (map entry_of (drop l.i l.entries)) ≡ find load_cmp (l.owner, l.number) (map entry_of l.entries)
