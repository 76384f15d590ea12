-- How long an entry is offered. This project's own.
use Rattle.std.specs.Prelude.{◌≡◌, ◌≢◌, true, ℕ, List, Some}
use Rattle.std.specs.List.{AllByRecursion}
use Rattle.outside.specs.Files.{Folder}
use Rattle.cache_folder.specs.Offered.{offered}
use Rattle.cache_folder.specs.Steps.{answer_at, Leaves}
use Rattle.cache_folder.specs.Images.{IfKnown, Runs}
use Rattle.disk_lru.specs.State.{CacheState, list_of}
use Rattle.disk_lru.specs.Calls.{Steps, CallOn, Stays}
use Rattle.disk_lru.specs.Past.{is_among}

-- the steps leave what the list answers for the key: they are on other keys, or use an entry
abbrev pub LeaveAnswer : List ℕ → Steps → Type 0
LeaveAnswer key steps = (f : Folder) → AllByRecursion (Leaves key) (steps f)

-- the folder offers the key with these bytes, and they are what the list answers for it
pub record HasEntry (pair : List ℕ × List ℕ) (folder : Folder) (cache : CacheState) : Type 0 where
  pub in_files : is_among (offered folder) pair ≡ true
  pub in_list : answer_at pair.0 (list_of folder cache) ≡ Some pair.1

-- an entry that the cache has is offered at each moment of a call, and the cache has it afterwards
abbrev pub EntryStays : List ℕ × List ℕ → CacheState → CacheState → Type 0
EntryStays pair old new = IfKnown old.history (λ h. HasEntry pair h.held old
    → Runs (λ c. is_among (offered c) pair ≡ true) h new.history
    × IfKnown new.history (λ k. HasEntry pair k.held new))

pub record EntriesStay : Type 0 where
  -- through a call on another key, and through one that uses its own or makes no step, whatever failed
  pub call : (key : List ℕ) (meant made : Steps) (old new : CacheState) (pair : List ℕ × List ℕ)
      → CallOn key meant made old new → LeaveAnswer pair.0 meant → LeaveAnswer pair.0 made
      → EntryStays pair old new
  -- through an eviction of another key that failed
  pub eviction : (key : List ℕ) (old new : CacheState) (pair : List ℕ × List ℕ)
      → Stays key old new → pair.0 ≢ key → EntryStays pair old new
