use Rattle.std.proofs.Common.{◌≡◌, ◌≤◌, ℕ, List, true, drop, IsSome}
use Rattle.std.specs.Prelude.{◌⊎◌}
use Rattle.std.specs.List.{list_any}
use Rattle.std.specs.Str.{bytes_eq}
use Rattle.std.specs.FinMap.{get}
use Rattle.cache_folder.specs.Images.{IfKnown, WasKnown, Runs}
use Rattle.cache_folder.specs.Starts.{Belongs}
use Rattle.cache_folder.specs.inside.Leaving.{Sweeps}
use Rattle.cache_folder.proofs.leftovers.sweep.Given as goal

-- each file that is held belongs there, or comes later
abbrev pub invariant-loop-name : goal.invariant-loop-name
invariant-loop-name g l = record {
  known : WasKnown (g.F.Files.history l.fn.files) (g.F.Files.history l.files);
  later : g.F.Files.faults l.fn.files ≤ g.F.Files.faults l.files;
  moments : IfKnown (g.F.Files.history l.fn.files) (λ h. Runs (Sweeps l.table.table.entries h.held) h (g.F.Files.history l.files));
  tidy : IfKnown (g.F.Files.history l.files) (λ k. (name : List ℕ) → IsSome (get k.held name)
      → Belongs name l.table.table.entries ⊎ (list_any (bytes_eq name) (drop l.name-index l.name-items) ≡ true));
}
