-- Worked examples of the pool. They are this project's own.
use Rattle.std.specs.Prelude.{◌≡◌, ℕ, List}
use Rattle.std.specs.declared.option.Option.{Option}
use Rattle.bitmap_kind.specs.declared.bitmaps.Config.TheVariants.{Argb8888}
use Rattle.bitmap_pool.specs.Pool.{Group, pool_put, pool_pick}

-- a group of Argb8888
abbrev pub argb : ℕ → List ℕ → Group ℕ
argb size items = record { size = size; config = Argb8888; items = items }

-- A look-up for so many bytes gives this bitmap or none, and leaves these groups.
abbrev pub Gives : List (Group ℕ) → ℕ → Option ℕ → List (Group ℕ) → Type 0
Gives groups wanted found left =
    let picked = pool_pick Argb8888 wanted groups in (picked.found ≡ found) × (picked.groups ≡ left)

-- A put of a bitmap of this size leaves these groups.
abbrev pub Puts : List (Group ℕ) → (maximum size number : ℕ) → List (Group ℕ) → Type 0
Puts groups maximum size number left = pool_put maximum size Argb8888 number groups ≡ left
