-- A size that a picture may be wanted at. The limit is this project's own.
use Rattle.std.specs.Prelude.{ℕ, ◌≤◌}
use Rattle.cache_key.specs.Key.{wanted_side_limit}

-- a width and a height, in pixels
abbrev pub Size : Type 0
Size = ℕ × ℕ

-- each side is 1 to 16,384
abbrev pub IsSize : Size → Type 0
IsSize size = (1 ≤ size.0) × (size.0 ≤ wanted_side_limit) × (1 ≤ size.1) × (size.1 ≤ wanted_side_limit)
