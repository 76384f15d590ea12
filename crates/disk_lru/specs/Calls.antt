-- What a call on a key does to the list of a disk cache and to its files. This project's own.
use Rattle.std.specs.Prelude.{◌≡◌, ◌≢◌, ◌⊎◌, Bool, true, ℕ, List, [], ◌∷◌, None}
use Rattle.std.specs.FinMap.{get}
use Rattle.outside.specs.Files.{Folder, FolderHistory}
use Rattle.disk_table.specs.UseOrder.{without}
use Rattle.disk_table.specs.Table.{edit_of}
use Rattle.cache_folder.specs.Offered.{edit_name, offered}
use Rattle.cache_folder.specs.Steps.{Cached, CacheStep, Doubt, Commit, Use, Drop, all_stepped}
use Rattle.cache_folder.specs.Images.{IfKnown, WasKnown, Runs, OffersEither}
use Rattle.cache_folder.specs.Tables.{len_at, closed_at}
use Rattle.cache_folder.specs.Sound.{text_at, abort_step}
use Rattle.cache_folder.specs.Allowed.{Pass, IsWithin, handed_by}
use Rattle.disk_lru.specs.State.{CacheState, entries, edits, list_of, Offers, AnswersFor, IsSettled}

-- ---- the steps of the calls

-- the steps of a call, by what the folder held before
abbrev pub Steps : Type 0
Steps = Folder → List (CacheStep (List ℕ))

abbrev pub no_steps : Steps
no_steps f = []

abbrev pub begin_steps : List ℕ → Steps
begin_steps key f = Doubt key ∷ []

-- the entry has the bytes that the file of its edit has
abbrev pub commit_steps : List ℕ → Steps
commit_steps key f = Commit key (text_at f (edit_name key)) ∷ []

-- what was readable stays so, and without that the key is dropped
abbrev pub abort_steps : List ℕ → CacheState → Steps
abort_steps key cache f = abort_step (len_at key (entries cache)) key ∷ []

abbrev pub use_steps : List ℕ → Steps
use_steps key f = Use key ∷ []

abbrev pub drop_steps : List ℕ → Steps
drop_steps key f = Drop key ∷ []

-- ---- what a call does

-- Every moment of a call offers only pairs that pass, and so it stays.
pub record StaysWithin (allowed : List ℕ × List ℕ → Bool) (before : FolderHistory) (new : CacheState) : Type 0 where
  pub moments : Runs (λ c. Pass allowed (offered c)) before new.history
  pub within : IfKnown new.history (λ k. IsWithin allowed k.held (entries new))

-- what was offered before a call, or what one of two lists offers
abbrev pub OffersOneOf : Folder → Cached (List ℕ) → Cached (List ℕ) → Folder → Type 0
OffersOneOf before es es' c = (offered c ≡ offered before) ⊎ OffersEither es es' c

-- What the moments of a call offer, that was to make the steps `meant`: also where it failed.
pub record Passage (meant : Steps) (old new : CacheState) : Type 0 where
  -- what is known of the files was known before
  pub known : WasKnown old.history new.history
  -- each moment offers what was offered before, or the list before the steps that were meant, or after them
  pub moments : IfKnown old.history (λ h.
      Runs (OffersOneOf h.held (list_of h.held old) (all_stepped (list_of h.held old) (meant h.held)))
      h new.history)
  -- each moment offers only what was offered or kept before, or what the steps bring in
  pub allows : IfKnown old.history (λ h. (allowed : List ℕ × List ℕ → Bool)
      → IsWithin allowed h.held (entries old) → Pass allowed (handed_by (meant h.held)) → StaysWithin allowed h new)

-- A call on a key: it was to make the steps `meant`, and it made the steps `made`, which differ where it failed.
pub record CallOn (key : List ℕ) (meant made : Steps) (old new : CacheState) : Type 0 where
  pub passage : Passage meant old new
  -- the list made the steps
  pub list : IfKnown old.history (λ h. IfKnown new.history (λ k.
      list_of k.held new ≡ all_stepped (list_of h.held old) (made h.held)))
  -- the files of all other keys' edits are as they were
  pub others : IfKnown old.history (λ h. IfKnown new.history (λ k.
      (other : List ℕ) → other ≢ key → get k.held (edit_name other) ≡ get h.held (edit_name other)))

-- where the cache answered for the key what its list does, it still does
abbrev pub StillAnswers : List ℕ → CacheState → CacheState → Type 0
StillAnswers key old new = IfKnown old.history (λ h. IfKnown new.history (λ k.
    AnswersFor key h.held old → AnswersFor key k.held new))

-- ---- a call that succeeded

-- The list made its steps, and now the files offer it. A rebuild of the journal that was due by the number of its lines was
-- done, or it failed and is due before the next call's first write.
pub record Makes (key : List ℕ) (steps : Steps) (old new : CacheState) : Type 0 where
  pub call : CallOn key steps steps old new
  pub offers_now : IfKnown new.history (λ k. Offers k.held new)
  pub answers : (any : List ℕ) → StillAnswers any old new
  pub settled : IsSettled new

-- ---- a call that failed

-- the edit of the key is closed if it had one, and those of other keys are as they were
pub record ClosesEdit (key : List ℕ) (old new : CacheState) : Type 0 where
  pub edits_are : edits new ≡ closed_at (edit_of key (edits old)) (edits old)
  pub own : edit_of key (edits new) ≡ None
  pub others : (other : List ℕ) → other ≢ key → edit_of other (edits new) ≡ edit_of other (edits old)

-- what a failed call on a key leaves of it: it is forgotten, with its edit, and a rebuild is due
pub record Forgets (key : List ℕ) (old new : CacheState) : Type 0 where
  pub entries_are : entries new ≡ without key (entries old)
  pub edit : ClosesEdit key old new
  pub due : new.due ≡ true

-- the list dropped the key alone
pub record Fails (key : List ℕ) (steps : Steps) (old new : CacheState) : Type 0 where
  pub forgets : Forgets key old new
  pub call : CallOn key steps (drop_steps key) old new
  pub answers : (any : List ℕ) → StillAnswers any old new

-- What a failed eviction leaves of a key: the table is as it was, but its value may be gone. The edits' files are as they were,
-- and each moment of it is one of a call that was to drop the key.
pub record Stays (key : List ℕ) (old new : CacheState) : Type 0 where
  pub passage : Passage (drop_steps key) old new
  pub entries_are : entries new ≡ entries old
  pub edits_are : edits new ≡ edits old
  -- the list has all other keys as they were
  pub others : IfKnown old.history (λ h. IfKnown new.history (λ k.
      without key (list_of k.held new) ≡ without key (list_of h.held old)))
  pub answers : (other : List ℕ) → other ≢ key → StillAnswers other old new
  pub files : IfKnown old.history (λ h. IfKnown new.history (λ k.
      (any : List ℕ) → get k.held (edit_name any) ≡ get h.held (edit_name any)))

-- nothing has changed but the count of faults
abbrev pub Unchanged : CacheState → CacheState → Type 0
Unchanged old new = new ≡ record old { faults = new.faults }
