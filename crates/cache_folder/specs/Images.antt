-- The contents that a stop may leave while calls change a folder.
use Rattle.std.specs.Prelude.{◌≡◌, ◌⊎◌, ℕ, ◌≤◌, List, length, take, Some}
use Rattle.std.specs.declared.option.Option.{Option}
use Rattle.std.specs.List.{AllByRecursion}
use Rattle.outside.specs.Files.{Folder, FolderHistory, last_of, passed_through}
use Rattle.cache_folder.specs.Offered.{offered}
use Rattle.cache_folder.specs.Steps.{Cached, CacheStep, all_stepped, offers}

-- a fact about files of which it is known what they hold
abbrev pub IfKnown : Option FolderHistory → (FolderHistory → Type 0) → Type 0
IfKnown known says = (history : FolderHistory) → known ≡ Some history → says history

-- what is known of files after a call was known before it
abbrev pub WasKnown : Option FolderHistory → Option FolderHistory → Type 0
WasKnown before after = (history : FolderHistory) → after ≡ Some history → (earlier : FolderHistory) × (before ≡ Some earlier)

-- The files passed only through contents that have P, and hold one that has P now.
pub record Runs (P : Folder → Type 0) (before : FolderHistory) (after : Option FolderHistory) : Type 0 where
  pub contents : List Folder
  pub after_is : after ≡ Some (passed_through contents before)
  pub each : AllByRecursion P contents
  pub here : P (last_of before.held contents)

-- the folder offers what the first list offers, or what the second does
abbrev pub OffersEither : Cached (List ℕ) → Cached (List ℕ) → Folder → Type 0
OffersEither es es' folder = (offered folder ≡ offers es) ⊎ (offered folder ≡ offers es')

-- the folder offers what the list offers after some of the steps, none skipped and none in part
pub record IsOnTheWay (es : Cached (List ℕ)) (steps : List (CacheStep (List ℕ))) (folder : Folder) : Type 0 where
  pub count : ℕ
  pub within : count ≤ length steps
  pub offers_prefix : offered folder ≡ offers (all_stepped es (take count steps))
