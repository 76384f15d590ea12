-- The files in memory as the entries of a map, and the folder that they make.
use Rattle.std.specs.Prelude.{◌≡◌, ℕ, List}
use Rattle.std.specs.FinMap.{from_entries}
use Rattle.outside.specs.Files.{Folder, last_of}

-- the folder of these names and bytes
abbrev pub folder_of : List (List ℕ × List ℕ) → Folder
folder_of files = from_entries files

-- the later files make the folder that stands last of those which the earlier ones pass through
abbrev pub LeavesLast : List (List ℕ × List ℕ) → List (List ℕ × List ℕ) → (Folder → List Folder) → Type 0
LeavesLast old new contents = folder_of new ≡ last_of (folder_of old) (contents (folder_of old))
