use Rattle.std.proofs.Common.{◌≡◌, ◌≤◌, ◌++◌}
use Rattle.cache_folder.specs.Images.{IfKnown}
use Rattle.cache_folder.specs.Starts.{keys_dropped}
use Rattle.cache_folder.proofs.Staying.{stale_of}
use Rattle.cache_folder.proofs.leftovers.stale_keys.Given as goal

-- the stale keys so far and those that are left
abbrev pub invariant-loop-key : goal.invariant-loop-key
invariant-loop-key g l = record {
  same : g.F.Files.history l.files ≡ g.F.Files.history l.fn.files;
  later : g.F.Files.faults l.fn.files ≤ g.F.Files.faults l.files;
  keys : IfKnown (g.F.Files.history l.fn.files) (λ h.
      l.stale.items ++ stale_of h.held l.table.table.entries l.key-iterator ≡ keys_dropped h.held l.table.table.entries);
}
