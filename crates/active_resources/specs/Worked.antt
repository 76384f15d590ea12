-- Worked examples of the active numbers. They are this project's own.
use Rattle.std.specs.Prelude.{◌≡◌, ℕ, List, [], ◌∷◌, Some}
use Rattle.std.specs.declared.option.Option.{Option}
use Rattle.std.specs.FinMap.{from_entries}
use Rattle.std.specs.FinSet.{from_list}
use Rattle.cache_key.specs.Key.{Key}
use Rattle.cache_key.specs.KeyOf.{KeyMap}
use Rattle.cache_key.specs.Worked.{red_key}
use Rattle.active_resources.specs.Actives.{Numbers, ActiveValue, Fits, IsActiveAt, activated}

-- numbers 1 and 3 have the red key, and number 2 has that of a wider picture
abbrev pub entries : List (ℕ × Key)
entries = (1, red_key) ∷ (2, record red_key { width = 3 }) ∷ (3, red_key) ∷ []

abbrev pub keys : KeyMap
keys = from_entries entries

-- the set of listed numbers
abbrev pub set_of : List ℕ → Numbers
set_of numbers = from_list numbers

-- a table of them, with room for three
abbrev pub table_of : List ℕ → ActiveValue
table_of numbers = record { room = 3; numbers = set_of numbers }

-- Of these active numbers this one has the red key,
abbrev pub Holds : List ℕ → ℕ → Type 0
Holds numbers number = IsActiveAt keys (Some red_key) (set_of numbers) number

-- or it is not active with it.
abbrev pub Lacks : List ℕ → ℕ → Type 0
Lacks numbers number = ¬ (IsActiveAt keys (Some red_key) (set_of numbers) number)

-- These may be active together,
abbrev pub CanBe : List ℕ → Type 0
CanBe numbers = Fits keys (set_of numbers)

-- or may not.
abbrev pub CannotBe : List ℕ → Type 0
CannotBe numbers = ¬ (Fits keys (set_of numbers))

-- Activating a number that replaces this one, or none, leaves these.
abbrev pub Leaves : List ℕ → Option ℕ → ℕ → List ℕ → Type 0
Leaves numbers replaced number left = activated replaced number (table_of numbers) ≡ table_of left
