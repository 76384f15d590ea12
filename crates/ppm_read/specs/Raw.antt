-- The raw samples of whole rows, as the code reads them: the same, said of a row's bytes at once.
use Rattle.std.specs.Prelude.{ℕ, ◌+◌, ◌*◌, nat_lt, List, [], ◌∷◌, if◌then◌else◌}

-- samples of two bytes, the high one first; a last byte alone is none
abbrev pub words : List ℕ → List ℕ
words (high ∷ low ∷ rest) = (256 * high + low) ∷ words rest
words rest = []

-- how many bytes a sample has
abbrev pub sample_length : ℕ → ℕ
sample_length maximum = if nat_lt maximum 256 then 1 else 2

-- the samples of these bytes
abbrev pub raw_samples : ℕ → List ℕ → List ℕ
raw_samples maximum bytes = if nat_lt maximum 256 then bytes else words bytes
