-- What holds between the files of a disk cache and its table. The names and the journal are DiskLruCache's; that this is
-- what must hold at every moment is this project's own.
use Rattle.std.specs.Prelude.{◌≡◌, ◌≢◌, ◌⊎◌, ℕ, true, ◌+◌, ◌<◌, ◌≤◌, ◌^◌, List, [], length, Some, None, ⊤, is_some, option_and_then, unwrap_or}
use Rattle.std.specs.declared.option.Option.{Option}
use Rattle.std.specs.Option.{option_map}
use Rattle.std.specs.List.{AllByRecursion}
use Rattle.std.specs.FinMap.{get}
use Rattle.outside.specs.Files.{Folder, FolderHistory}
use Rattle.journal_lines.specs.Keys.{is_key}
use Rattle.disk_table.specs.UseOrder.{IsOnce}
use Rattle.cache_folder.specs.Offered.{journal_name, journal_tmp, journal_bkp, value_name, edit_name, offered}
use Rattle.cache_folder.specs.Journals.{Says, line_count}
use Rattle.cache_folder.specs.Steps.{Entry, Cached, CacheStep, Restore, Drop, values_at, stepped, offers}
use Rattle.cache_folder.specs.Images.{IfKnown, Runs, OffersEither}
use Rattle.cache_folder.specs.Tables.{Kept, Table, mapped, len_at, in_journal}

-- ---- the list

-- the entry with the bytes that the folder has
abbrev pub in_folder : Folder → List ℕ → Kept → Entry (List ℕ)
in_folder folder key kept = record { values = option_and_then (λ n. get folder (value_name key)) kept.len; marked = is_some kept.edit }

-- the list that a table stands for over a folder
abbrev pub listed : Folder → Table → Cached (List ℕ)
listed folder table = mapped (in_folder folder) table

-- a table has for a key the length of the bytes that a list has
abbrev pub SameLength : List ℕ → Table → Cached (List ℕ) → Type 0
SameLength key table es = len_at key table ≡ option_map length (values_at key es)

-- the bytes of a file
abbrev pub text_at : Folder → List ℕ → List ℕ
text_at folder name = unwrap_or (get folder name) []

-- the step of an edit that is given up, by what was readable
abbrev pub abort_step : Option ℕ → List ℕ → CacheStep (List ℕ)
abort_step None key = Drop key
abort_step (Some n) key = Restore key

-- ---- the files of the entries

-- a file that is there with this length
abbrev pub HasLength : Option (List ℕ) → Option ℕ → Type 0
HasLength found None = ⊤
HasLength found (Some n) = (bytes : List ℕ) × (found ≡ Some bytes) × (length bytes ≡ n) × (n < 2 ^ 40)

-- a file that has this length if it is there: a call that failed may have taken it
abbrev pub MayHave : Option (List ℕ) → Option ℕ → Type 0
MayHave found None = ⊤
MayHave found (Some n) = (n < 2 ^ 40) × ((bytes : List ℕ) → found ≡ Some bytes → length bytes ≡ n)

pub record Fits (folder : Folder) (e : List ℕ × Kept) : Type 0 where
  pub key : is_key e.0 ≡ true
  pub value : MayHave (get folder (value_name e.0)) e.1.len
  pub edit : HasLength (get folder (edit_name e.0)) e.1.edit

-- Always: the files of the table's entries are there. The journal may say anything.
pub record IsKept (folder : Folder) (table : Table) : Type 0 where
  pub files : AllByRecursion (Fits folder) table
  pub count : length table ≤ 16400
  pub once : IsOnce table

-- where no rebuild is due: the journal leaves the table's entries too
pub record IsSound (folder : Folder) (table : Table) : Type 0 where
  pub says : Says folder (mapped in_journal table)
  pub files : AllByRecursion (Fits folder) table
  pub count : length table ≤ 16400
  pub once : IsOnce table

-- ---- what calls leave as it was

-- the files of all other keys
abbrev pub SameBut : List ℕ → Folder → Folder → Type 0
SameBut key old new = (name : List ℕ) → name ≢ journal_name → name ≢ value_name key → name ≢ edit_name key → get new name ≡ get old name

-- the files that are no journal
abbrev pub SameEntries : Folder → Folder → Type 0
SameEntries old new = (name : List ℕ) → name ≢ journal_name → name ≢ journal_tmp → name ≢ journal_bkp → get new name ≡ get old name

-- ---- the moments of a call

-- a moment of a call on a key: one of two lists is offered, and other keys' files are as they were
abbrev pub Way : List ℕ → Folder → Cached (List ℕ) → Cached (List ℕ) → Folder → Type 0
Way key f es es' c = OffersEither es es' c × SameBut key f c

-- a moment of a rebuild: what was offered is offered, or the table's list
abbrev pub RebuildWay : Folder → Table → Folder → Type 0
RebuildWay f t c = ((offered c ≡ offered f) ⊎ (offered c ≡ offers (listed f t))) × SameEntries f c

-- a call succeeded: the files are sound for the new table, which stands for this list
pub record Done (after : Option FolderHistory) (table : Table) (es : Cached (List ℕ)) : Type 0 where
  pub history : FolderHistory
  pub holds : after ≡ Some history
  pub sound : IsSound history.held table
  pub list : listed history.held table ≡ es

-- The files of a call on a key pass only through contents that offer the list before the step or after it. `step` is the step by
-- what the folder held before.
abbrev pub Ways : List ℕ → Table → (Folder → CacheStep (List ℕ)) → Option FolderHistory → Option FolderHistory → Type 0
Ways key table step before after =
    IfKnown before (λ h. Runs (Way key h.held (listed h.held table) (stepped (listed h.held table) (step h.held))) h after)

-- and in the end they are sound for this table, which stands for the list after the step
abbrev pub Does : Table → (Folder → CacheStep (List ℕ)) → Table → Option FolderHistory → Option FolderHistory → Type 0
Does table step table' before after =
    IfKnown before (λ h. Done after table' (stepped (listed h.held table) (step h.held)))

-- the journal has so many lines more
abbrev pub AddsLines : ℕ → Option FolderHistory → Option FolderHistory → Type 0
AddsLines more before after =
    IfKnown before (λ h. IfKnown after (λ k. line_count k.held ≡ line_count h.held + more))

-- the value of the key may be gone, and the journal may differ: all other files are as they were
pub record MayLose (key : List ℕ) (old new : Folder) : Type 0 where
  pub value : (get new (value_name key) ≡ get old (value_name key)) ⊎ (get new (value_name key) ≡ None)
  pub others : (name : List ℕ) → name ≢ journal_name → name ≢ value_name key → get new name ≡ get old name
