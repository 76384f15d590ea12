use Rattle.std.proofs.Common.{◌≡◌, ◌++◌}
use Rattle.journal_lines.specs.Journal.{header, text_of}
use Rattle.cache_folder.specs.Tables.{kept, lines_for}
use Rattle.cache_folder.proofs.NewText.{keyed}
use Rattle.cache_folder.proofs.table.CacheTable.journal_text.Given as goal

-- the text so far and the lines of the keys that are left
abbrev pub invariant-loop-key : goal.invariant-loop-key
invariant-loop-key l = l.text.items ++ text_of (keyed (kept l.self) l.key-iterator) ≡ header ++ text_of (lines_for (kept l.self))
