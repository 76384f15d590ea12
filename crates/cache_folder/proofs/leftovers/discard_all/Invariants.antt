use Rattle.std.proofs.Common.{◌≡◌, drop}
use Rattle.cache_folder.specs.Starts.{HasNoEdits, without_all}
use Rattle.cache_folder.proofs.leftovers.discard_all.Given as goal

abbrev pub invariant-loop-key : goal.invariant-loop-key
invariant-loop-key l = record {
  free : HasNoEdits l.table;
  entries : without_all (drop l.key-index l.keys) l.table.table.entries ≡ without_all l.keys l.initial.table.table.entries;
}
