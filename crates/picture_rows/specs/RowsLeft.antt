-- The rows of a picture that are left while it is read from the top, whatever a reader's faults are.
use Rattle.std.specs.Prelude.{◌≡◌, ℕ, ◌<◌, ◌⊎◌, List, [], ◌∷◌, length, Ok, Err, Some, None, IsSome, Result, Bool, true, false}
use Rattle.std.specs.declared.option.Option.{Option}

-- the rows that are left, from the top, and the fault that comes after them, if one does
pub record RowsLeft (F : Type 0) : Type 0 where
  pub width : ℕ
  pub rows : List (List ℕ)
  pub fault : Option F

-- a row above those that are left
abbrev pub with_row : {F : Type 0} → List ℕ → RowsLeft F → RowsLeft F
with_row row left = record left { rows = row ∷ left.rows }

-- all rows come and no fault, or fewer and then a fault
abbrev pub HasRows : {F : Type 0} → ℕ → RowsLeft F → Type 0
HasRows height left = ((length left.rows ≡ height) × (left.fault ≡ None))
    ⊎ ((length left.rows < height) × IsSome left.fault)

-- What a call answers, with the row that it wrote, and what is left afterwards: the next row; or false,
-- where none is left and no fault comes; or the fault, again at each later call. What a fault leaves of
-- the row is any bytes.
abbrev pub RowStep : {F : Type 0} → RowsLeft F → Result Bool F → List ℕ → RowsLeft F → Type 0
RowStep old (Ok true) row new = old ≡ with_row row new
RowStep old (Ok false) row new = (old.rows ≡ []) × (old.fault ≡ None) × (new ≡ old)
RowStep old (Err fault) row new = (old.rows ≡ []) × (old.fault ≡ Some fault) × (new ≡ old)
