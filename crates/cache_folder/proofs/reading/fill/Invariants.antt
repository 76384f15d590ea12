use Rattle.std.proofs.Common.{◌≡◌, ◌≤◌, ◌-◌, length, Some}
use Rattle.std.specs.FinMap.{get}
use Rattle.outside.specs.Files.{FolderHistory}
use Rattle.cache_folder.proofs.Filling.{ReadSo}
use Rattle.cache_folder.proofs.reading.fill.Given as goal

-- what was read so far, and the files as they were
abbrev pub invariant-pieces : goal.invariant-pieces
invariant-pieces g l = (l.at ≤ length l.into) × (length l.into ≡ length l.initial.into) × (g.F.Files.history l.files ≡ g.F.Files.history l.initial.files)
    × (g.F.Files.faults l.initial.files ≤ g.F.Files.faults l.files)
    × ((h : FolderHistory) → g.F.Files.history l.initial.files ≡ Some h → ReadSo (get h.held l.name) l.at l.into)

abbrev pub decreases-pieces : goal.decreases-pieces
decreases-pieces g l = length l.initial.into - l.at
