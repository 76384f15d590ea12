-- The numbers of the resources that loads hold, with at most one of each key. That a load finds an active resource by its key is Glide's ActiveResources; numbers in place of objects, and that a number is let go only by itself, are this project's own.
use Rattle.std.specs.Prelude.{◌≡◌, ℕ, true, Some, None, IsSome, ◌↔◌}
use Rattle.std.specs.declared.option.Option.{Option}
use Rattle.std.specs.Ordering.{nat_cmp}
use Rattle.std.specs.FinMap.{get}
use Rattle.std.specs.FinSet.{FinSet, contains, insert, remove}
use Rattle.cache_key.specs.Key.{Key}
use Rattle.cache_key.specs.KeyOf.{KeyMap}

-- a finite set of numbers
abbrev pub Numbers : Type 0
Numbers = FinSet nat_cmp

-- what contracts see of a table: how many numbers it has room for, and those that are active
pub record ActiveValue : Type 0 where
  pub room : ℕ
  pub numbers : Numbers

-- A table fits the keys where these have each of its numbers, and no two of its numbers have the same key.
pub record Fits (keys : KeyMap) (numbers : Numbers) : Type 0 where
  pub known : (number : ℕ) → contains numbers number ≡ true → IsSome (get keys number)
  pub apart : (a b : ℕ) → contains numbers a ≡ true → contains numbers b ≡ true
      → get keys a ≡ get keys b → a ≡ b

-- The number is active, and has what is asked for: a key.
abbrev pub IsActiveAt : KeyMap → Option Key → Numbers → ℕ → Type 0
IsActiveAt keys wanted numbers number = (contains numbers number ≡ true) × (get keys number ≡ wanted)

-- The answer is the number that is active and has what is asked for,
abbrev pub TellsIt : KeyMap → Option Key → Numbers → Option ℕ → Type 0
TellsIt keys wanted numbers answer =
    (number : ℕ) → (answer ≡ Some number) ↔ IsActiveAt keys wanted numbers number

-- or there is no such number.
abbrev pub NobodyHas : KeyMap → Option Key → Numbers → Type 0
NobodyHas keys wanted numbers = (number : ℕ) → ¬ (IsActiveAt keys wanted numbers number)

-- without the one that is replaced, if there is one
abbrev pub without : Option ℕ → Numbers → Numbers
without None numbers = numbers
without (Some number) numbers = remove numbers number

-- a table with this number, in the place of the one that is replaced
abbrev pub activated : Option ℕ → ℕ → ActiveValue → ActiveValue
activated replaced number active = record active { numbers = insert (without replaced active.numbers) number }
