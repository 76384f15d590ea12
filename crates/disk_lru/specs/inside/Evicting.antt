-- A start while it evicts.
use Rattle.std.specs.Prelude.{◌≡◌, ℕ, List, [], ◌∷◌, ◌++◌, Some, Result, IsOk, ⊤}
use Rattle.outside.specs.Files.{FolderHistory}
use Rattle.disk_table.specs.UseOrder.{IsOnce}
use Rattle.cache_folder.specs.Steps.{CacheStep}
use Rattle.cache_folder.specs.Starts.{list_of_pairs, lengths_in, evictions, staying}
use Rattle.disk_lru.specs.declared.refusals.DiskFault.{DiskFault}
use Rattle.disk_lru.specs.State.{entries, list_of}
use Rattle.disk_lru.specs.Past.{DiskState}
use Rattle.disk_lru.specs.Trims.{HasNoOther}
use Rattle.disk_lru.specs.Started.{one_by_one, kept_of}

-- some of the pairs are left, and the steps so far are those that are to be made first
pub record IsEvicting (maximum : ℕ) (all : List (List ℕ × List ℕ)) (disk : DiskState) : Type 0 where
  pub left : List (List ℕ × List ℕ)
  pub done : List (CacheStep (List ℕ))
  pub history : FolderHistory
  pub known : disk.cache.history ≡ Some history
  pub calls : disk.past.calls ≡ [] ∷ one_by_one done
  pub keeps : entries disk.cache ≡ kept_of left
  pub once : IsOnce (lengths_in left)
  pub steps : evictions maximum all ≡ done ++ evictions maximum left
  pub stays : staying maximum all ≡ staying maximum left
  pub list : list_of history.held disk.cache ≡ list_of_pairs left
  pub files : HasNoOther history.held disk.cache

-- what a start's evictions leave of the past: nothing is handed to a commit, and only a failure is a failure
pub record SamePast (old new : DiskState) (result : Result ⊤ DiskFault) : Type 0 where
  pub entry : new.past.entry ≡ old.past.entry
  pub handed : new.past.handed ≡ old.past.handed
  pub failed : IsOk result → new.past.failed ≡ old.past.failed
