-- What the fields of a table keep, in this project's own words.
use Rattle.std.specs.Prelude.{◌≡◌, ℕ, ◌≤◌, List, [], ◌∷◌, length, reverse, Some, ⊤, unwrap_or, slice_get, IsSome}
use Rattle.std.specs.Option.{option_flatten}
use Rattle.std.specs.declared.option.Option.{Option}
use Rattle.std.specs.List.{AllByRecursion}
use Rattle.disk_table.specs.UseOrder.{Entries, IsOnce, IsShort, size_of, value_at}

-- the entries that the hash map lists, the most recent first: each key once, few enough, with lengths whose sum is kept
pub record IsOrder (listed : List (List ℕ × Option ℕ)) (cap size : ℕ) : Type 0 where
  pub cap_is : cap ≡ 16400
  pub few : length listed ≤ 16400
  pub once : IsOnce (reverse listed)
  pub short : AllByRecursion (λ e. IsShort e.1) (reverse listed)
  pub sized : size ≡ size_of (reverse listed)

-- two edits are not of one key
abbrev pub IsApartFrom : Option (List ℕ) → Option (List ℕ) → Type 0
IsApartFrom a b = (key : List ℕ) → a ≡ Some key → b ≡ Some key → ⊥

-- no two edits are of one key
abbrev pub AreApart : List (Option (List ℕ)) → Type 0
AreApart [] = ⊤
AreApart (edit ∷ edits) = AllByRecursion (IsApartFrom edit) edits × AreApart edits

-- the edits: 16 places, and no two of one key
pub record AreEdits (edits : List (Option (List ℕ))) : Type 0 where
  pub places : length edits ≡ 16
  pub apart : AreApart edits

-- what a key adds to the size
abbrev pub length_at : List ℕ → Entries (Option ℕ) → ℕ
length_at key es = unwrap_or (option_flatten (value_at key es)) 0

-- each key under edit has an entry
abbrev pub AreKnown : Entries (Option ℕ) → List (Option (List ℕ)) → Type 0
AreKnown es edits = (key : List ℕ) (number : ℕ) → slice_get edits number ≡ Some (Some key)
    → IsSome (value_at key es)
