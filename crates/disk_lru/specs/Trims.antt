-- An eviction of the eldest key. It is DiskLruCache's, but that a key under edit stays; and what is left after a failure is this
-- project's own.
use Rattle.std.specs.Prelude.{◌≡◌, ◌⊎◌, Bool, true, ℕ, List, None, Ok, Result, IsErr, IsSome, is_err}
use Rattle.std.specs.FinMap.{get}
use Rattle.outside.specs.Files.{Folder}
use Rattle.disk_table.specs.UseOrder.{without, is_known}
use Rattle.disk_table.specs.Table.{edit_of}
use Rattle.cache_folder.specs.Offered.{journal_tmp, journal_bkp}
use Rattle.cache_folder.specs.Images.{IfKnown}
use Rattle.cache_folder.specs.Starts.{Belongs}
use Rattle.disk_lru.specs.declared.refusals.DiskFault.{DiskFault}
use Rattle.disk_lru.specs.State.{CacheState, entries, edits}
use Rattle.disk_lru.specs.Calls.{drop_steps, Makes, Stays}
use Rattle.disk_lru.specs.Past.{DiskState, steps_at, after_call}

-- ---- the files beside the journal

-- a rebuild that failed may have left its new journal, or the old one
abbrev pub IsLeftOver : List ℕ → CacheState → Type 0
IsLeftOver name cache = (cache.due ≡ true) × ((name ≡ journal_tmp) ⊎ (name ≡ journal_bkp))

-- no other file is held than the journal, those of the entries, and what a failed rebuild left
pub record HasNoOther (folder : Folder) (cache : CacheState) : Type 0 where
  pub each : (name : List ℕ) → IsSome (get folder name)
      → Belongs name cache.table.table.entries ⊎ IsLeftOver name cache

-- where no other file was held, none is
pub record AddsNoOther (old new : CacheState) : Type 0 where
  pub none : IfKnown old.history (λ h. IfKnown new.history (λ k.
      HasNoOther h.held old → HasNoOther k.held new))

-- ---- an eviction

-- this key was to go
pub record Trims (key : List ℕ) (result : Result Bool DiskFault) (old new : DiskState) : Type 0 where
  pub known : is_known key (entries old.cache) ≡ true
  pub closed : edit_of key (edits old.cache) ≡ None
  pub gone : result ≡ Ok true → entries new.cache ≡ without key (entries old.cache)
  pub makes : result ≡ Ok true → Makes key (drop_steps key) old.cache new.cache
  pub stays : IsErr result → Stays key old.cache new.cache
  pub due : IsErr result → new.cache.due ≡ true
  -- no edit is closed
  pub edits_are : edits new.cache ≡ edits old.cache
  -- its file is gone
  pub files : result ≡ Ok true → AddsNoOther old.cache new.cache
  pub past : new.past ≡ after_call (steps_at old.cache.history (drop_steps key)) (is_err result) old.past
