-- Numbers in a text, as Windows writes them: the lowest byte comes first.
use Rattle.std.specs.Prelude.{ℕ, ◌+◌, List, [], ◌∷◌, slice_index}
use Rattle.std.specs.Int.{w16, w32, from_le_bytes}

-- the number of two bytes from this place on
abbrev pub u16_at : ℕ → List ℕ → ℕ
u16_at at text = from_le_bytes w16 (slice_index text at ∷ slice_index text (at + 1) ∷ [])

-- the number of four bytes from this place on
abbrev pub u32_at : ℕ → List ℕ → ℕ
u32_at at text = from_le_bytes w32 (slice_index text at ∷ slice_index text (at + 1)
    ∷ slice_index text (at + 2) ∷ slice_index text (at + 3) ∷ [])
