use Rattle.std.proofs.Common.{◌≡◌, ◌+◌, ◌-◌, ◌≤◌, ◌++◌, ℕ, List, length, drop}
use Rattle.cache_folder.specs.Starts.{HasNoEdits, table_from}
use Rattle.cache_folder.proofs.journal_reader.apply_piece.Given as goal

abbrev pub invariant-lines : goal.invariant-lines
invariant-lines l = record {
  within : l.at ≤ length l.piece;
  read : l.replay.read ≡ l.initial.replay.read + l.at;
  free : HasNoEdits l.table;
  applies : (text : List ℕ) → table_from l.initial.table.table l.initial.replay (l.piece ++ text) ≡ table_from l.table.table l.replay (drop l.at l.piece ++ text);
}

abbrev pub decreases-lines : goal.decreases-lines
decreases-lines l = length l.piece - l.at
