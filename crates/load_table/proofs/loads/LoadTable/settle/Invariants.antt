use Rattle.std.proofs.Common.{◌≡◌, ◌++◌, map, take, drop, length}
use Rattle.std.specs.Prelude.{vec_capacity}
use Rattle.load_table.specs.LoadsView.{settled_entry}
use Rattle.load_table.proofs.loads.LoadTable.settle.Given as goal

-- those that the loop has passed are settled, and the vector keeps its length and its room
abbrev pub invariant-loop-i : goal.invariant-loop-i
invariant-loop-i g l = (l.self-inside.entries.items ≡ map (settled_entry l.job l.to) (take l.i l.initial.self-inside.entries.items) ++ drop l.i l.initial.self-inside.entries.items)
    × (length l.self-inside.entries.items ≡ length l.initial.self-inside.entries.items)
    × (vec_capacity l.self-inside.entries ≡ vec_capacity l.initial.self-inside.entries)
    × (l.self-inside.room ≡ l.initial.self-inside.room)
