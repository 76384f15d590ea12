-- What holds of the groups of every pool, and that no call breaks it. The limits, and that they hold after each call,
-- are this project's own.
use Rattle.std.specs.Prelude.{◌≡◌, ℕ, ◌≤◌, false, List, [], ◌∷◌, length}
use Rattle.bitmap_kind.specs.declared.bitmaps.Config.{Config}
use Rattle.bitmap_pool.specs.Pool.{Group, pool_size, pool_count, has_group, pool_put, pool_trim, pool_pick}

-- No two groups have one size and one config.
abbrev pub AreApart : {A : Type 0} → List (Group A) → Type 0
AreApart [] = Unit {0}
AreApart (g ∷ gs) = (has_group g.size g.config gs ≡ false) × AreApart gs

-- These are groups of a pool of this maximum.
pub record IsPool {A : Type 0} (maximum : ℕ) (groups : List (Group A)) : Type 0 where
  pub apart : AreApart groups
  pub size : pool_size groups ≤ maximum
  pub bitmaps : pool_count groups ≤ 1024
  pub few_groups : length groups ≤ 2048

-- They are so after a put,
abbrev pub PutsKeep : Type 0 → Type 0
PutsKeep A = (maximum size : ℕ) (config : Config) (x : A) (groups : List (Group A))
    → IsPool maximum groups → IsPool maximum (pool_put maximum size config x groups)

-- after a look-up,
abbrev pub PicksKeep : Type 0 → Type 0
PicksKeep A = (maximum wanted : ℕ) (config : Config) (groups : List (Group A))
    → IsPool maximum groups → IsPool maximum (pool_pick config wanted groups).groups

-- and where a pool is cut to a size, of a pool of that maximum.
abbrev pub TrimsKeep : Type 0 → Type 0
TrimsKeep A = (maximum room : ℕ) (groups : List (Group A))
    → IsPool maximum groups → IsPool room (pool_trim room groups)
