-- What contracts see of a disk cache, and of an edit.
use Rattle.std.specs.Prelude.{◌≡◌, ◌⊎◌, ℕ, ◌-◌, ◌<◌, Bool, false, List, length, Some}
use Rattle.std.specs.declared.option.Option.{Option}
use Rattle.std.specs.Coded.{Coded, coded_list, coded_ℕ}
use Rattle.std.specs.FinMap.{code}
use Rattle.outside.specs.Files.{Folder, FolderHistory}
use Rattle.disk_table.specs.Table.{edit_of, is_due}
use Rattle.cache_folder.specs.Journals.{line_count}
use Rattle.cache_folder.specs.Offered.{offered}
use Rattle.cache_folder.specs.Steps.{Cached, offers}
use Rattle.cache_folder.specs.Images.{IfKnown}
use Rattle.cache_folder.specs.Tables.{Table, CacheTableValue, kept}
use Rattle.cache_folder.specs.Sound.{listed, SameLength}

-- a folder is kept apart by its entries
abbrev pub folder_code : Coded Folder
folder_code = code (coded_list coded_ℕ) (coded_list coded_ℕ)

pub record CacheState : Type 0 where
  -- what the files hold and held, where it is known
  pub history : Option FolderHistory
  -- how many calls on them failed
  pub faults : ℕ
  pub table : CacheTableValue
  -- the most bytes that the readable values may have together
  pub maximum : ℕ
  -- a failure made a rebuild due
  pub due : Bool

pub record EditValue : Type 0 where
  pub key : List ℕ
  pub number : ℕ
  -- a write that failed closed it
  pub closed : Bool

-- what the cache keeps of each key
abbrev pub entries : CacheState → Table
entries cache = kept cache.table

-- the key of each open edit at the edit's number
abbrev pub edits : CacheState → List (Option (List ℕ))
edits cache = cache.table.table.edits

-- the list that the cache stands for
abbrev pub list_of : Folder → CacheState → Cached (List ℕ)
list_of folder cache = listed folder (entries cache)

-- the folder offers what the list of the cache offers
abbrev pub Offers : Folder → CacheState → Type 0
Offers folder cache = offered folder ≡ offers (list_of folder cache)

-- The table has for the key the length of the bytes that the list has: so the cache answers for it what the list does.
abbrev pub AnswersFor : List ℕ → Folder → CacheState → Type 0
AnswersFor key folder cache = SameLength key (entries cache) (list_of folder cache)

-- the edit is open in this cache
abbrev pub IsOpen : EditValue → CacheState → Type 0
IsOpen edit cache = (edit.closed ≡ false) × (edit_of edit.key (edits cache) ≡ Some edit.number)

-- ---- the lines of the journal

-- how many lines a rebuild would save
abbrev pub redundant_lines : Folder → CacheState → ℕ
redundant_lines folder cache = line_count folder - length (entries cache)

-- DiskLruCache rebuilds its journal where that saves 2,000 lines, and at least as many as there are keys. Where no failure
-- made a rebuild due, the journal has fewer lines than that, and none is due by their number.
pub record IsSettled (cache : CacheState) : Type 0 where
  pub few : cache.due ≡ false → IfKnown cache.history (λ h.
      (redundant_lines h.held cache < 2000) ⊎ (redundant_lines h.held cache < length (entries cache)))
  pub counted : cache.due ≡ false → is_due cache.table.table ≡ false
