-- Worked tables. They are this project's own.
use Rattle.std.specs.Prelude.{ℕ, List, [], ◌∷◌, Some, codes}
use Rattle.std.specs.declared.option.Option.{Option}
use Rattle.disk_table.specs.Table.{TableValue}

-- k with so many bytes, with these open edits and so many lines
abbrev pub one_entry : ℕ → List (Option (List ℕ)) → ℕ → TableValue
one_entry length edits lines = record {
  entries = (codes "k", Some length) ∷ [];
  edits = edits;
  lines = lines;
}

-- k and m with 3 bytes each, k the eldest, with these open edits
abbrev pub two_entries : List (Option (List ℕ)) → TableValue
two_entries edits = record {
  entries = (codes "k", Some 3) ∷ (codes "m", Some 3) ∷ [];
  edits = edits;
  lines = 4;
}
