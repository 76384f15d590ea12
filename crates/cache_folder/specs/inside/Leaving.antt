-- What a start leaves while it takes files away.
use Rattle.std.specs.Prelude.{◌≡◌, ◌≢◌, List, ℕ, true, None, Some, IsSome}
use Rattle.std.specs.declared.option.Option.{Option}
use Rattle.std.specs.List.{AllByRecursion}
use Rattle.std.specs.FinMap.{get}
use Rattle.outside.specs.Files.{Folder}
use Rattle.journal_lines.specs.Keys.{is_key}
use Rattle.disk_table.specs.UseOrder.{is_known}
use Rattle.cache_folder.specs.Offered.{Replayed, journal_name, journal_bkp, value_name, offered}

-- each key of an entry has a readable length
abbrev pub AreClean : Replayed → Type 0
AreClean = AllByRecursion (λ e. IsSome e.1)

-- each pair is of a key of the entries
abbrev pub AreKnown : List (List ℕ × List ℕ) → Replayed → Type 0
AreKnown pairs es = AllByRecursion (λ p. (is_key p.0 ≡ true) × (is_known p.0 es ≡ true)) pairs

-- the file is of no entry's key
abbrev pub IsNoEntryFile : List ℕ → Replayed → Type 0
IsNoEntryFile name es = (key : List ℕ) → is_key key ≡ true → is_known key es ≡ true → name ≢ value_name key

-- and it is not the journal
pub record IsForeign (name : List ℕ) (es : Replayed) : Type 0 where
  pub no_journal : name ≢ journal_name
  pub no_entry : IsNoEntryFile name es

-- what a folder is while files are swept away: it offers the same, has the same journal and the same files of entries, and no
-- new file
pub record Sweeps (es : Replayed) (old new : Folder) : Type 0 where
  pub offers : offered new ≡ offered old
  pub journal : get new journal_name ≡ get old journal_name
  pub alone : get new journal_bkp ≡ None
  pub values : (key : List ℕ) → is_key key ≡ true → is_known key es ≡ true → get new (value_name key) ≡ get old (value_name key)
  pub fewer : (name : List ℕ) → IsSome (get new name) → IsSome (get old name)
