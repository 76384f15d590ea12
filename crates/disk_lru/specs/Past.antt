-- What a disk cache has done since `start` was called, and what that promises of its files. This project's own.
use Rattle.std.specs.Prelude.{◌≡◌, ℕ, Bool, false, ◌&&◌, ◌||◌, List, [], ◌∷◌, ◌++◌, Some, None, if◌then◌else◌}
use Rattle.std.specs.declared.option.Option.{Option}
use Rattle.std.specs.List.{AllByRecursion, list_any}
use Rattle.std.specs.Str.{bytes_eq}
use Rattle.outside.specs.Files.{Folder, FolderHistory, last_of, passed_through}
use Rattle.cache_folder.specs.Offered.{offered}
use Rattle.cache_folder.specs.Steps.{Cached, CacheStep, all_stepped}
use Rattle.cache_folder.specs.Images.{IfKnown, WasKnown, Runs, OffersEither}
use Rattle.cache_folder.specs.Starts.{list_offered}
use Rattle.cache_folder.specs.Allowed.{Pass, IsWithin, handed_by}
use Rattle.disk_lru.specs.State.{CacheState, entries, list_of, Offers, AnswersFor}
use Rattle.disk_lru.specs.Calls.{Steps}

pub record PastValue : Type 0 where
  -- what the files held, and had held, when `start` was called, where it is known
  pub entry : Option FolderHistory
  -- the steps of each call since then that succeeded, those of `start` first
  pub calls : List (List (CacheStep (List ℕ)))
  -- each key and bytes that were handed to `commit`, also where it failed
  pub handed : List (List ℕ × List ℕ)
  -- a call has answered Failed or Memory
  pub failed : Bool

pub record DiskState : Type 0 where
  pub cache : CacheState
  -- for contracts alone
  pub past : PastValue

-- just after the start itself, which makes no step
abbrev pub at_start : Option FolderHistory → PastValue
at_start entry = record { entry = entry; calls = [] ∷ []; handed = []; failed = false }

-- ---- what a call adds

-- the steps of a call on files of which it is known what they hold
abbrev pub steps_at : Option FolderHistory → Steps → List (CacheStep (List ℕ))
steps_at None steps = []
steps_at (Some history) steps = steps history.held

abbrev pub after_call : List (CacheStep (List ℕ)) → Bool → PastValue → PastValue
after_call steps failed past = record {
  entry = past.entry;
  calls = if failed then past.calls else past.calls ++ steps ∷ [];
  handed = past.handed ++ handed_by steps;
  failed = past.failed || failed;
}

-- ---- where no call has failed

-- the list that was offered when `start` was called
abbrev pub opening : FolderHistory → Cached (List ℕ)
opening entry = list_offered entry.held

abbrev pub after_calls : Cached (List ℕ) → List (List (CacheStep (List ℕ))) → Cached (List ℕ)
after_calls es [] = es
after_calls es (call ∷ calls) = after_calls (all_stepped es call) calls

-- Contents that calls passed through, one call after the other. Each content of a call offers what the list offers before the
-- steps of that call, or after them: so after all steps of the calls that had returned, with none skipped and none in part.
abbrev pub InTurn : Cached (List ℕ) → List (List (CacheStep (List ℕ))) → List Folder → Type 0
InTurn es [] contents = contents ≡ []
InTurn es (call ∷ calls) contents = (own : List Folder) × (later : List Folder) × (contents ≡ own ++ later)
    × AllByRecursion (OffersEither es (all_stepped es call)) own × InTurn (all_stepped es call) calls later

-- The moments since `start` was called are those of the calls, in turn. Now the list is where their steps lead, the files offer
-- it, and the cache answers for each key what the list does.
pub record IsOnCourse (past : PastValue) (entry : FolderHistory) (cache : CacheState) : Type 0 where
  pub contents : List Folder
  pub after_is : cache.history ≡ Some (passed_through contents entry)
  pub in_turn : InTurn (opening entry) past.calls contents
  pub list : list_of (last_of entry.held contents) cache ≡ after_calls (opening entry) past.calls
  pub offers_now : Offers (last_of entry.held contents) cache
  pub answers : (key : List ℕ) → AnswersFor key (last_of entry.held contents) cache

-- ---- whatever failed

abbrev pub is_pair : List ℕ × List ℕ → List ℕ × List ℕ → Bool
is_pair p q = bytes_eq p.0 q.0 && bytes_eq p.1 q.1

abbrev pub is_among : List (List ℕ × List ℕ) → List ℕ × List ℕ → Bool
is_among pairs p = list_any (is_pair p) pairs

-- the pairs that were offered when `start` was called, and those that were handed to `commit` since
abbrev pub given : PastValue → FolderHistory → List (List ℕ × List ℕ)
given past entry = offered entry.held ++ past.handed

-- each moment since `start` was called offers only such pairs, and so it stays
pub record OffersGiven (past : PastValue) (entry : FolderHistory) (cache : CacheState) : Type 0 where
  pub moments : Runs (λ c. Pass (is_among (given past entry)) (offered c)) entry cache.history
  pub within : IfKnown cache.history (λ k. IsWithin (is_among (given past entry)) k.held (entries cache))

-- ---- both

pub record Promise (disk : DiskState) : Type 0 where
  -- what is known of the files was known when `start` was called
  pub known : WasKnown disk.past.entry disk.cache.history
  pub course : disk.past.failed ≡ false → IfKnown disk.past.entry (λ h. IsOnCourse disk.past h disk.cache)
  pub given_only : IfKnown disk.past.entry (λ h. OffersGiven disk.past h disk.cache)
