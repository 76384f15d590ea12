-- What a folder's journal says. The lines are DiskLruCache's.
use Rattle.std.specs.Prelude.{◌≡◌, ℕ, List, ◌++◌, length, Some, None, Ok, Err, Result}
use Rattle.std.specs.declared.option.Option.{Option}
use Rattle.std.specs.List.{AllByRecursion}
use Rattle.std.specs.FinMap.{get}
use Rattle.outside.specs.Files.{Folder}
use Rattle.journal_lines.specs.Lines.{IsLine}
use Rattle.journal_lines.specs.Journal.{Lines, header, text_of, journal_of}
use Rattle.journal_lines.specs.declared.lines.Line.{Line}
use Rattle.journal_lines.specs.declared.lines.JournalFault.{JournalFault}
use Rattle.disk_table.specs.Table.{fold}
use Rattle.cache_folder.specs.Offered.{Replayed, journal_name, journal_tmp, journal_bkp}

-- the folder has a journal of whole lines, and they leave these entries
pub record Says (folder : Folder) (entries : Replayed) : Type 0 where
  pub lines : List Line
  pub good : AllByRecursion IsLine lines
  pub text : get folder journal_name ≡ Some (header ++ text_of lines)
  pub folds : fold lines ≡ Some entries

-- ---- how many lines it has

-- how many lines a journal has after its header; a bad one has none
abbrev pub count_of : Result Lines JournalFault → ℕ
count_of (Ok lines) = length lines.0
count_of (Err fault) = 0

abbrev pub count_in : Option (List ℕ) → ℕ
count_in None = 0
count_in (Some text) = count_of (journal_of text)

-- how many lines the folder's journal has after its header
abbrev pub line_count : Folder → ℕ
line_count folder = count_in (get folder journal_name)

-- no journal stands beside `journal`
pub record HasOneJournal (folder : Folder) : Type 0 where
  pub no_new : get folder journal_tmp ≡ None
  pub no_old : get folder journal_bkp ≡ None
