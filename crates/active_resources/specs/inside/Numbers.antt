-- The same on the list of a table's vector. It is this project's own, as the vector is.
use Rattle.std.specs.Prelude.{◌≡◌, ℕ, Bool, true, false, nat_eq, IsSome, not, ◌==◌, List, filter, Some, None}
use Rattle.std.specs.declared.option.Option.{Option}
use Rattle.std.specs.List.{list_any}
use Rattle.std.specs.FinMap.{get}
use Rattle.cache_key.specs.Key.{Key, same_key}
use Rattle.cache_key.specs.KeyOf.{KeyMap}

-- Each of the numbers has a key.
abbrev pub AllKnown : KeyMap → List ℕ → Type 0
AllKnown keys numbers =
    (number : ℕ) → list_any (λ n. nat_eq n number) numbers ≡ true → IsSome (get keys number)

-- whether it is there, and this one
abbrev pub is_key : Key → Option Key → Bool
is_key key None = false
is_key key (Some other) = same_key other key

-- whether a number has this key
abbrev pub has_key : KeyMap → Key → ℕ → Bool
has_key keys key number = is_key key (get keys number)

-- the other numbers
abbrev pub others : ℕ → List ℕ → List ℕ
others number numbers = filter (λ n. not (n == number)) numbers

-- the others of a number, if there is one
abbrev pub left_of : Option ℕ → List ℕ → List ℕ
left_of None numbers = numbers
left_of (Some number) numbers = others number numbers
