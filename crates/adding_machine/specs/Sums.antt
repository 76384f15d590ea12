-- What an adding machine does, and what two that add at a turn are answered.
use Rattle.std.specs.Prelude.{◌≡◌, ℕ, ◌+◌, ◌%◌, ◌^◌, List, [], ◌∷◌}
use Rattle.state_machine.specs.declared.entry.Entry.{Entry}
use Rattle.state_machine.specs.Histories.{entry}
use Rattle.adding_machine.specs.declared.machine.Addition.{Addition}

-- an adding machine: its sum, and the history of its steps
pub record Adding : Type 0 where
  pub sum : ℕ
  pub history : List (Entry Addition)

abbrev pub addition : ℕ → ℕ → Addition
addition amount sum = record { amount = amount; sum = sum }

-- a step adds the amount, round 2^64, and answers the new sum
pub record Adds (before : ℕ) (e : Entry Addition) (after : ℕ) : Type 0 where
  pub sum : after ≡ (before + e.note.amount) % 2 ^ 64
  pub answer : e.note.sum ≡ after

-- seat 0 adds 2 and is answered x, seat 1 adds 3 and is answered y, and seat 0 came first
pub record ZeroFirst (x y : ℕ) (history : List (Entry Addition)) : Type 0 where
  pub zero_is : x ≡ 2
  pub one_is : y ≡ 5
  pub history_is : history ≡ entry 0 (addition 2 2) ∷ entry 1 (addition 3 5) ∷ []

-- the same, and seat 1 came first
pub record OneFirst (x y : ℕ) (history : List (Entry Addition)) : Type 0 where
  pub zero_is : x ≡ 5
  pub one_is : y ≡ 3
  pub history_is : history ≡ entry 1 (addition 3 3) ∷ entry 0 (addition 2 5) ∷ []
