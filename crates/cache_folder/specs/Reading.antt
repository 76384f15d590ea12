-- A file that is read from its beginning into a slice, till that is full or the file ends. This project's own.
use Rattle.std.specs.Prelude.{◌≡◌, ℕ, ◌≤◌, ◌<◌, List, length, take, Some, None, IsSomeAnd}
use Rattle.std.specs.declared.option.Option.{Option}

-- so many bytes of the text were read: all that the slice has room for, or all that there are
pub record Fills (text : List ℕ) (count : ℕ) (into : List ℕ) : Type 0 where
  pub bytes : take count into ≡ take count text
  pub inside : count ≤ length text
  pub full : count < length into → count ≡ length text

-- what is answered: none exactly where there is no file
abbrev pub FillsFrom : Option (List ℕ) → Option ℕ → List ℕ → Type 0
FillsFrom None count into = count ≡ None
FillsFrom (Some text) count into = IsSomeAnd count (λ n. Fills text n into)
