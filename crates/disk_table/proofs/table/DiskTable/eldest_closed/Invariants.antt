use Rattle.std.proofs.Common.{◌≡◌}
use Rattle.disk_table.specs.Table.{eldest_closed, keys_in}
use Rattle.disk_table.proofs.table.DiskTable.eldest_closed.Given as goal

-- none of the keys that the loop has passed will do
abbrev pub invariant-loop-key : goal.invariant-loop-key
invariant-loop-key l = eldest_closed l.self-inside.edits l.key-iterator ≡ eldest_closed l.self.edits (keys_in l.self.entries)
