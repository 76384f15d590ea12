-- Worked examples of the count. They are this project's own.
use Rattle.std.specs.Prelude.{◌≡◌, ℕ, List}
use Rattle.engine_resource.specs.Uses.{Use, EachHeld, counted}

-- After these uses of a new resource its count is this.
abbrev pub Counts : List Use → ℕ → Type 0
Counts uses count = counted 0 uses ≡ count

-- A new resource may be used so,
abbrev pub MayBe : List Use → Type 0
MayBe uses = EachHeld 0 uses

-- or may not.
abbrev pub MayNotBe : List Use → Type 0
MayNotBe uses = ¬ (EachHeld 0 uses)
