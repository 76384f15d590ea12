-- Files in memory: the changes that were made to them, what these leave, and which calls fail.
use Rattle.std.specs.Prelude.{◌≡◌, ℕ, ◌≤◌, ◌↔◌, List, [], ◌∷◌, ◌++◌, length, take, drop, Ok, Err, Some, Result, is_ok, if◌then◌else◌}
use Rattle.std.specs.FinMap.{empty, insert}
use Rattle.outside.specs.Calls.{CallCount, FailsNext, no_calls, after_call, after_failure}
use Rattle.outside.specs.Files.{Folder, FolderHistory, Changes, passed_through, made, appended, renamed, deleted}
use Rattle.outside.specs.declared.changes.Change.{Change}
use Rattle.outside.specs.declared.changes.Change.TheVariants.{Made, Appended, Renamed, Deleted, Placed}
use Rattle.outside.specs.declared.files.FileFault.{FileFault}
use Rattle.outside.specs.declared.files.FileFault.TheVariants.{Failed, Memory}

-- the changes since the object was made, and the calls so far
pub record FilesState : Type 0 where
  pub changes : List Change
  pub calls : CallCount

-- ---- what the changes leave

-- the contents that a change passes through
abbrev pub contents_of : Change → Folder → List Folder
contents_of (Made name) folder = made name folder
contents_of (Appended name bytes) folder = appended name bytes folder
contents_of (Renamed from to) folder = renamed from to folder
contents_of (Deleted name) folder = deleted name folder
contents_of (Placed name bytes) folder = insert folder name bytes ∷ []

-- no files
abbrev pub no_files : FolderHistory
no_files = record { held = empty; images = [] }

-- a history, and after it some changes
abbrev pub changed : FolderHistory → List Change → FolderHistory
changed history [] = history
changed history (change ∷ changes) =
    changed (passed_through (contents_of change history.held) history) changes

-- what is held after some changes, and what was held in between
abbrev pub history_of : List Change → FolderHistory
history_of = changed no_files

-- what files hold now
abbrev pub held_by : FilesState → Folder
held_by files = (history_of files.changes).held

-- ---- what a call does

-- the count of the calls after a call, by its answer
abbrev pub after_file_call : {T : Type 0} → Result T FileFault → CallCount → CallCount
after_file_call (Ok answer) calls = after_call calls
after_file_call (Err Failed) calls = after_failure calls
after_file_call (Err Memory) calls = after_call calls

-- A call makes its changes where it succeeds, and else none. It fails exactly where its number is listed.
pub record MakesCall {T : Type 0}
    (changes : List Change) (old new : FilesState) (result : Result T FileFault) : Type 0 where
  pub changed : new.changes ≡ old.changes ++ (if is_ok result then changes else [])
  pub listed : (result ≡ Err Failed) ↔ FailsNext old.calls
  pub counted : new.calls ≡ after_file_call result old.calls

-- a call that changes files goes through these contents, by what they hold
abbrev pub ChangesBy : {T : Type 0} → (Folder → List Folder) → FilesState → FilesState → Result T FileFault
    → Type 0
ChangesBy contents old new result =
    Changes contents (Some (history_of old.changes)) (Some (history_of new.changes)) result

-- ---- a stop within the changes

-- how many bytes the next of these changes appends
abbrev pub next_length : List Change → ℕ
next_length [] = 0
next_length (Made name ∷ changes) = 0
next_length (Appended name bytes ∷ changes) = length bytes
next_length (Renamed from to ∷ changes) = 0
next_length (Deleted name ∷ changes) = 0
next_length (Placed name bytes ∷ changes) = 0

-- the first bytes of the next of these changes, where it appends
abbrev pub cut_change : ℕ → List Change → List Change
cut_change cut [] = []
cut_change cut (Made name ∷ changes) = []
cut_change cut (Appended name bytes ∷ changes) = Appended name (take cut bytes) ∷ []
cut_change cut (Renamed from to ∷ changes) = []
cut_change cut (Deleted name ∷ changes) = []
cut_change cut (Placed name bytes ∷ changes) = []

-- a stop after so many whole changes, with so many bytes of the next one appended
abbrev pub IsStop : ℕ → ℕ → List Change → Type 0
IsStop count cut changes = (count ≤ length changes) × (cut ≤ next_length (drop count changes))

abbrev pub stopped : ℕ → ℕ → List Change → List Change
stopped count cut changes = take count changes ++ cut_change cut (drop count changes)

-- no files, and no calls yet
abbrev pub no_changes : List ℕ → FilesState
no_changes failing = record { changes = []; calls = no_calls failing }

-- a history that stopped earlier: what it passed through is a prefix of what the whole one passed through
abbrev pub IsPrefixOf : FolderHistory → FolderHistory → Type 0
IsPrefixOf prefix whole = prefix.images ≡ take (length prefix.images) whole.images
