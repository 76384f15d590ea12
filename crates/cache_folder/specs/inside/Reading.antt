-- A journal that is applied to a table while it is read.
use Rattle.std.specs.Prelude.{◌≡◌, ◌<◌, Bool, false, List, [], ◌++◌, take, drop, ℕ, None, Ok, Err, Result, ⊤}
use Rattle.journal_lines.specs.Replay.{ReplayState}
use Rattle.disk_table.specs.Table.{TableValue}
use Rattle.cache_folder.specs.Starts.{table_from}
use Rattle.cache_folder.specs.declared.journal_reader.Unread.{Unread}
use Rattle.cache_folder.specs.declared.journal_reader.Unread.TheVariants.{Bad, Refused}

-- where a reader stands: the table so far, the stream, and what is left of the piece
pub record Place : Type 0 where
  pub table : TableValue
  pub replay : ReplayState
  pub left : List ℕ

-- One step of a reader, whatever text comes after what is left of the piece: the journal leaves the same table from the new
-- place on. A step that answers false has used the piece up. A journal is bad only where it leaves no table.
abbrev pub Applies : Place → Place → Result Bool Unread → Type 0
Applies old new (Ok more) = (more ≡ false → new.left ≡ [])
    × ((text : List ℕ) → table_from old.table old.replay (old.left ++ text) ≡ table_from new.table new.replay (new.left ++ text))
Applies old new (Err Bad) = (text : List ℕ) → table_from old.table old.replay (old.left ++ text) ≡ None
Applies old new (Err (Refused fault)) = ⊤

-- a whole piece
abbrev pub AppliesPiece : Place → Place → Result ⊤ Unread → Type 0
AppliesPiece old new (Ok done) = (text : List ℕ) → table_from old.table old.replay (old.left ++ text) ≡ table_from new.table new.replay text
AppliesPiece old new (Err Bad) = (text : List ℕ) → table_from old.table old.replay (old.left ++ text) ≡ None
AppliesPiece old new (Err (Refused fault)) = ⊤

-- The rest of a journal's text, from the place that was read up to: whatever is read there is a piece of it.
pub record ReadsPiece (text : List ℕ) (at count : ℕ) (piece : List ℕ) : Type 0 where
  pub some : 0 < count
  pub piece_is : take count piece ≡ take count (drop at text)
