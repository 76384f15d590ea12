-- Texts and changes of the worked examples.
use Rattle.std.specs.Prelude.{ℕ, List, [], ◌∷◌, codes}
use Rattle.outside.specs.Texts.{ContentBytes}
use Rattle.outside.specs.declared.changes.Change.{Change}
use Rattle.outside.specs.declared.changes.Change.TheVariants.{Made, Appended, Deleted}

-- a text of one byte at `red` with this signature
abbrev pub red_text : List ℕ → ℕ → ContentBytes
red_text sig byte = record { url = codes "red"; sig = sig; bytes = byte ∷ [] }

-- a file is made, gets three bytes and is taken away
abbrev pub three_changes : List Change
three_changes = Made (codes "a") ∷ Appended (codes "a") (codes "xyz") ∷ Deleted (codes "a") ∷ []
