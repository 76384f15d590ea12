-- What a start leaves of a disk cache: the list that the folder offered, with the eldest dropped while there was too much. That
-- a start drops them, each by a call, is this project's own.
use Rattle.std.specs.Prelude.{◌≡◌, ℕ, false, List, [], ◌∷◌, length, Some, None}
use Rattle.std.specs.declared.option.Option.{Option}
use Rattle.outside.specs.Files.{FolderHistory}
use Rattle.cache_folder.specs.Offered.{offered}
use Rattle.cache_folder.specs.Steps.{CacheStep}
use Rattle.cache_folder.specs.Images.{IfKnown, Runs}
use Rattle.cache_folder.specs.Tables.{Table}
use Rattle.cache_folder.specs.Allowed.{Pass}
use Rattle.cache_folder.specs.Starts.{list_of_pairs, evictions, staying}
use Rattle.disk_lru.specs.State.{entries, list_of}
use Rattle.disk_lru.specs.Past.{PastValue, DiskState, is_among}
use Rattle.disk_lru.specs.Trims.{HasNoOther}

-- each step as a call of its own
abbrev pub one_by_one : List (CacheStep (List ℕ)) → List (List (CacheStep (List ℕ)))
one_by_one [] = []
one_by_one (step ∷ steps) = (step ∷ []) ∷ one_by_one steps

-- what a cache keeps of these pairs, none of them under edit
abbrev pub kept_of : List (List ℕ × List ℕ) → Table
kept_of [] = []
kept_of (p ∷ ps) = (p.0, record { len = Some (length p.1); edit = None }) ∷ kept_of ps

-- The cache after a start, by what the folder offered before it.
pub record IsStarted (maximum : ℕ) (before : FolderHistory) (disk : DiskState) : Type 0 where
  -- each eviction was a call
  pub calls : disk.past.calls ≡ [] ∷ one_by_one (evictions maximum (offered before.held))
  -- the list is what was offered, with the eldest dropped while there was too much
  pub list : IfKnown disk.cache.history (λ k.
      list_of k.held disk.cache ≡ list_of_pairs (staying maximum (offered before.held)))
  -- and no key is under edit
  pub keeps : entries disk.cache ≡ kept_of (staying maximum (offered before.held))
  -- no other file is held
  pub files : IfKnown disk.cache.history (λ k. HasNoOther k.held disk.cache)

-- whatever failed: each moment of the start offers only what was offered before it
abbrev pub OffersNoMore : Option FolderHistory → Option FolderHistory → Type 0
OffersNoMore before after = IfKnown before (λ h. Runs (λ c. Pass (is_among (offered h.held)) (offered c)) h after)

-- the past of a cache that was started just now: no call failed, and nothing was handed to a commit
pub record IsFresh (before : Option FolderHistory) (past : PastValue) : Type 0 where
  pub entry : past.entry ≡ before
  pub handed : past.handed ≡ []
  pub failed : past.failed ≡ false
