-- How the fields of a table are seen. It is this project's own, as the fields are.
use Rattle.std.specs.Prelude.{◌≡◌, ℕ, ◌≤◌, false, List, [], ◌∷◌, length, vec_capacity, nat_eq}
use Rattle.std.specs.List.{list_any}
use Rattle.std.specs.FinSet.{from_list}
use Rattle.active_resources.specs.declared.actives.Active.TheInside.{Inside}
use Rattle.active_resources.specs.Actives.{ActiveValue}

abbrev pub value_of : Inside → ActiveValue
value_of s = record { room = s.room; numbers = from_list s.numbers.items }

-- No number stands twice.
abbrev pub AllApart : List ℕ → Type 0
AllApart [] = Unit {0}
AllApart (x ∷ xs) = (list_any (λ y. nat_eq y x) xs ≡ false) × AllApart xs

-- Its vector has each number once, and room for as many as it may have.
pub record IsTable (s : Inside) : Type 0 where
  pub apart : AllApart s.numbers.items
  pub few : length s.numbers.items ≤ s.room
  pub reserved : s.room ≤ vec_capacity s.numbers
