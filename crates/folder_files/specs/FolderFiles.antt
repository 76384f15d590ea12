-- What contracts see of the files in a folder of the system: the folder's name and the count of faults. What
-- the folder holds is not known. The view, and that each failure is counted, are this project's own.
use Rattle.std.specs.Prelude.{ℕ, Bool, not, ◌==◌, ◌&&◌, ◌||◌, List, Ok, Err, Result}
use Rattle.std.specs.List.{list_all}
use Rattle.outside.specs.Content.{counted}
use Rattle.outside.specs.FolderPath.{is_part_name}
use Rattle.outside.specs.declared.files.FileFault.{FileFault}
use Rattle.outside.specs.declared.files.FileFault.TheVariants.{Failed, Memory}

-- the folder and the count
pub record FilesState : Type 0 where
  -- the bytes of the folder's name
  pub folder : List ℕ
  -- how many calls answered `Failed`
  pub faults : ℕ

-- the files before the first call
abbrev pub fresh_files : List ℕ → FilesState
fresh_files folder = record { folder = folder; faults = 0 }

-- the files after a call, by its answer
abbrev pub after_files_call : {T : Type 0} → Result T FileFault → FilesState → FilesState
after_files_call (Ok answer) files = files
after_files_call (Err Failed) files = record files { faults = counted files.faults }
after_files_call (Err Memory) files = files

-- A byte that POSIX lets stand in the name of a file: any but 0, which ends a path, and `/` (47), which
-- parts one.
abbrev pub is_file_byte : ℕ → Bool
is_file_byte b = not (b == 0 || b == 47)

-- which names a file of the folder can have, by POSIX: neither `.` nor `..`, and each byte is one of a name
abbrev pub names_file : List ℕ → Bool
names_file name = list_all is_file_byte name && is_part_name name
