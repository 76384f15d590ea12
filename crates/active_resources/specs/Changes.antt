-- That a table still fits where the keys change at other numbers. It is this project's own.
use Rattle.std.specs.Prelude.{◌≡◌, ℕ, true, false}
use Rattle.std.specs.FinMap.{get, insert, remove}
use Rattle.std.specs.FinSet.{contains}
use Rattle.cache_key.specs.Key.{Key}
use Rattle.cache_key.specs.KeyOf.{KeyMap}
use Rattle.active_resources.specs.Actives.{Numbers, Fits}

-- where the table's own numbers have the keys that they had
abbrev pub FitsWhereSame : Type 0
FitsWhereSame = (keys changed : KeyMap) (numbers : Numbers) → Fits keys numbers
    → ((number : ℕ) → contains numbers number ≡ true → get changed number ≡ get keys number)
    → Fits changed numbers

-- where a number that is not the table's has a key put
abbrev pub FitsAfterInsert : Type 0
FitsAfterInsert = (keys : KeyMap) (numbers : Numbers) (number : ℕ) (key : Key) → Fits keys numbers
    → contains numbers number ≡ false → Fits (insert keys number key) numbers

-- and where it has its key taken
abbrev pub FitsAfterRemove : Type 0
FitsAfterRemove = (keys : KeyMap) (numbers : Numbers) (number : ℕ) → Fits keys numbers
    → contains numbers number ≡ false → Fits (remove keys number) numbers
