-- What a start knows of a folder and its table before the journal is rebuilt.
use Rattle.std.specs.Prelude.{◌≡◌, ℕ, Bool, true, false, List, None}
use Rattle.std.specs.declared.option.Option.{Option}
use Rattle.std.specs.List.{AllByRecursion}
use Rattle.std.specs.FinMap.{get}
use Rattle.outside.specs.Files.{Folder}
use Rattle.journal_lines.specs.Keys.{is_key}
use Rattle.journal_lines.specs.declared.lines.Rest.{Rest}
use Rattle.journal_lines.specs.declared.lines.Rest.TheVariants.{Whole, Cut}
use Rattle.disk_table.specs.UseOrder.{IsShort}
use Rattle.disk_table.specs.Table.{TableValue}
use Rattle.cache_folder.specs.Offered.{Replayed, journal_bkp, readable, offered}
use Rattle.cache_folder.specs.Journals.{Says, line_count}
use Rattle.cache_folder.specs.Tables.{CacheTableValue, kept}
use Rattle.cache_folder.specs.Sound.{IsKept, listed}
use Rattle.cache_folder.specs.Starts.{entries_found, has_value, IsTidy, kept_count, lengths_in, list_offered}

-- a key with a length as a line may have it
abbrev pub IsGood : List ℕ × Option ℕ → Type 0
IsGood e = (is_key e.0 ≡ true) × IsShort e.1

-- the journal was read, and says just the table
pub record SaysTable (folder : Folder) (t : TableValue) : Type 0 where
  pub says : Says folder t.entries
  pub lines : t.lines ≡ kept_count (line_count folder)

-- the table has what the journal leaves; `whole` where it is no less than the journal says
pub record IsRead (folder : Folder) (t : TableValue) (whole : Bool) : Type 0 where
  pub alone : get folder journal_bkp ≡ None
  pub entries : t.entries ≡ entries_found folder
  pub good : AllByRecursion IsGood t.entries
  pub says : whole ≡ true → SaysTable folder t

-- the table has the entries that are offered, and other files are gone
pub record IsSwept (folder : Folder) (t : TableValue) (whole : Bool) : Type 0 where
  pub offers : offered folder ≡ readable folder t.entries
  pub values : AllByRecursion (λ e. has_value folder e.0 e.1 ≡ true) t.entries
  pub good : AllByRecursion IsGood t.entries
  pub tidy : IsTidy folder t.entries
  pub says : whole ≡ true → SaysTable folder t

-- and this is what a cache keeps of them, whatever the journal says
pub record IsReady (folder : Folder) (t : CacheTableValue) : Type 0 where
  pub entries : t.table.entries ≡ lengths_in (offered folder)
  pub keeps : IsKept folder (kept t)
  pub list : listed folder (kept t) ≡ list_offered folder
  pub tidy : IsTidy folder t.table.entries

-- the text is not cut
abbrev pub is_whole : Rest → Bool
is_whole Whole = true
is_whole Cut = false
