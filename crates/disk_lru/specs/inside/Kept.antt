-- What holds between the files of a cache and its table.
use Rattle.std.specs.Prelude.{◌≡◌, ℕ, ◌-◌, ◌^◌, min, Bool, false}
use Rattle.std.specs.declared.option.Option.{Option}
use Rattle.outside.specs.Files.{Folder, FolderHistory}
use Rattle.cache_folder.specs.Journals.{line_count}
use Rattle.cache_folder.specs.Images.{IfKnown}
use Rattle.cache_folder.specs.Tables.{CacheTableValue, kept}
use Rattle.cache_folder.specs.Sound.{IsKept, IsSound}

-- the count of the journal's lines stays at the largest number once it is there
abbrev pub IsCounted : Folder → ℕ → Type 0
IsCounted folder lines = lines ≡ min (line_count folder) (2 ^ 64 - 1)

-- Always the table's entries have their files. Where no rebuild is due, the journal says the table, and its lines are counted.
pub record Keeps (history : Option FolderHistory) (table : CacheTableValue) (due : Bool) : Type 0 where
  pub files : IfKnown history (λ h. IsKept h.held (kept table))
  pub sound : due ≡ false → IfKnown history (λ h. IsSound h.held (kept table))
  pub counted : due ≡ false → IfKnown history (λ h. IsCounted h.held table.table.lines)
