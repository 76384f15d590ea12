use Rattle.std.proofs.Common.{◌≡◌, ◌-◌, ◌≤◌, List, ◌++◌, ℕ, length, drop, Some}
use Rattle.std.specs.FinMap.{get}
use Rattle.cache_folder.specs.Offered.{journal_name}
use Rattle.cache_folder.specs.Images.{IfKnown}
use Rattle.cache_folder.specs.Starts.{HasNoEdits, table_from}
use Rattle.cache_folder.proofs.journal_reader.apply_all.Given as goal

abbrev pub invariant-pieces : goal.invariant-pieces
invariant-pieces g l = record {
  within : l.at ≤ l.size;
  read : l.replay.read ≡ l.at;
  free : HasNoEdits l.table;
  same : g.F.Files.history l.files ≡ g.F.Files.history l.initial.files;
  later : g.F.Files.faults l.initial.files ≤ g.F.Files.faults l.files;
  applies : IfKnown (g.F.Files.history l.initial.files) (λ h. (text : List ℕ) → get h.held journal_name ≡ Some text → length text ≡ l.size → (more : List ℕ)
      → table_from l.initial.table.table l.initial.replay (text ++ more) ≡ table_from l.table.table l.replay (drop l.at text ++ more));
}

abbrev pub decreases-pieces : goal.decreases-pieces
decreases-pieces g l = l.size - l.at
