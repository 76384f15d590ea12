-- A folder of files, and the contents that its calls pass through. All of it is this project's own, after
-- what POSIX says of its calls: a rename is one step, and a write that is interrupted has written a prefix of
-- its bytes.
use Rattle.std.specs.Prelude.{◌≡◌, ℕ, ◌≤◌, List, [], ◌∷◌, ◌++◌, length, take, drop, Some, None, Result, Err, IsOk, IfOk, IsSomeAnd, is_some, if◌then◌else◌}
use Rattle.std.specs.declared.option.Option.{Option}
use Rattle.std.specs.Ordering.{nat_cmp}
use Rattle.std.specs.Cmp.Lexicographic.{slice_cmp}
use Rattle.std.specs.FinMap.{FinMap, get, insert, remove}
use Rattle.std.specs.List.{IsDistinct, list_any}
use Rattle.std.specs.Str.{bytes_eq}
use Rattle.outside.specs.declared.files.FileFault.{FileFault}
use Rattle.outside.specs.declared.files.FileFault.TheVariants.{Memory}

-- what a folder holds: the bytes of each name
abbrev pub Folder : Type 0
Folder = FinMap (slice_cmp nat_cmp) (List ℕ)

-- what a folder holds now, and what it held after each change since its object was made: what a stop of the
-- process may have left
pub record FolderHistory : Type 0 where
  pub held : Folder
  pub images : List Folder

-- the last of some contents that follow a first
abbrev pub last_of : Folder → List Folder → Folder
last_of folder [] = folder
last_of folder (next ∷ more) = last_of next more

-- the folder passed through these contents, one after the other
abbrev pub passed_through : List Folder → FolderHistory → FolderHistory
passed_through contents history = record {
  held = last_of history.held contents;
  images = history.images ++ contents;
}

-- ---- the contents that each call passes through; the last is what it leaves

-- an empty file of the name
abbrev pub made : List ℕ → Folder → List Folder
made name folder = insert folder name [] ∷ []

-- a file of these bytes that grows by one byte after the other
abbrev pub grown : List ℕ → List ℕ → List ℕ → Folder → List Folder
grown name text [] folder = []
grown name text (byte ∷ bytes) folder =
    insert folder name (text ++ byte ∷ []) ∷ grown name (text ++ byte ∷ []) bytes folder

-- the file of the name with the bytes at its end, where there is such a file
abbrev pub appended_to : Option (List ℕ) → List ℕ → List ℕ → Folder → List Folder
appended_to None name bytes folder = []
appended_to (Some text) name bytes folder = grown name text bytes folder

abbrev pub appended : List ℕ → List ℕ → Folder → List Folder
appended name bytes folder = appended_to (get folder name) name bytes folder

-- the file under its new name, in the place of one that stood there, where there is such a file
abbrev pub moved : Option (List ℕ) → List ℕ → List ℕ → Folder → List Folder
moved None from to folder = []
moved (Some text) from to folder = insert (remove folder from) to text ∷ []

abbrev pub renamed : List ℕ → List ℕ → Folder → List Folder
renamed from to folder = moved (get folder from) from to folder

-- the folder without the name, where it is there
abbrev pub deleted : List ℕ → Folder → List Folder
deleted name folder = if is_some (get folder name) then remove folder name ∷ [] else []

-- ---- what a call does

-- A call that changes files goes through a prefix of the contents that it could pass through: all of them
-- where it succeeds, and none where it wants memory.
pub record Passes {T : Type 0}
    (contents : List Folder) (before : FolderHistory) (after : Option FolderHistory)
    (result : Result T FileFault) : Type 0 where
  pub count : ℕ
  pub after_is : after ≡ Some (passed_through (take count contents) before)
  pub whole : IsOk result → take count contents ≡ contents
  pub none : result ≡ Err Memory → take count contents ≡ []

-- The same of files of which it is known what they hold, or not known before and after the call. `contents`
-- says by what is held which contents the call could pass through.
abbrev pub Changes : {T : Type 0} → (Folder → List Folder) → Option FolderHistory → Option FolderHistory
    → Result T FileFault → Type 0
Changes contents None after result = after ≡ None
Changes contents (Some before) after result = Passes (contents before.held) before after result

-- an answer about what is held, where that is known and the call succeeds
abbrev pub WhereKnown : {T : Type 0} → Option FolderHistory → Result T FileFault → (Folder → T → Type 0)
    → Type 0
WhereKnown known result says =
    (history : FolderHistory) → known ≡ Some history → IfOk result (says history.held)

-- the names that are held, each once
pub record IsListing (names : List (List ℕ)) (folder : Folder) : Type 0 where
  pub once : IsDistinct bytes_eq names
  pub held : (name : List ℕ) → list_any (bytes_eq name) names ≡ is_some (get folder name)

-- What a read at a place of a file moved into a slice: the next bytes of the file, and 0 of them only at or
-- past its end.
pub record Reads (text : List ℕ) (at count : ℕ) (old new : List ℕ) : Type 0 where
  pub fits : count ≤ length old
  pub bytes : take count new ≡ take count (drop at text)
  pub inside : count ≤ length (drop at text)
  pub zero : count ≡ 0 → length text ≤ at

-- what a read of a file answers: none exactly where there is no file
abbrev pub ReadsFile : Option (List ℕ) → ℕ → Option ℕ → List ℕ → List ℕ → Type 0
ReadsFile None at count old new = count ≡ None
ReadsFile (Some text) at count old new = IsSomeAnd count (λ n. Reads text at n old new)
