-- Pools of bitmaps and pools of their numbers. It is this project's own: the engine's state has numbers, the code's
-- pool has bitmaps.
use Rattle.std.specs.Prelude.{◌≡◌, ℕ, List, map}
use Rattle.std.specs.Option.{option_map}
use Rattle.bitmap_kind.specs.declared.bitmaps.Config.{Config}
use Rattle.bitmap_kind.specs.Picture.{BitmapValue}
use Rattle.bitmap_pool.specs.Pool.{Group, Picked, pool_put, pool_pick, pool_trim}

-- groups with each bitmap as something of it
abbrev pub each_as : {A B : Type 0} → (A → B) → List (Group A) → List (Group B)
each_as f groups = map (λ g. record { size = g.size; config = g.config; items = map f g.items }) groups

-- what a look-up gave, likewise
abbrev pub picked_as : {A B : Type 0} → (A → B) → Picked A → Picked B
picked_as f picked = record {
  found = option_map f picked.found;
  size = picked.size;
  groups = each_as f picked.groups;
}

-- a bitmap by its number
abbrev pub number_in : BitmapValue → ℕ
number_in bitmap = bitmap.number

-- groups of bitmaps by their numbers
abbrev pub numbered : List (Group BitmapValue) → List (Group ℕ)
numbered groups = each_as number_in groups

abbrev pub PutsAlike : Type 0
PutsAlike = (maximum : ℕ) (bitmap : BitmapValue) (groups : List (Group BitmapValue)) →
    let size = bitmap.allocation in
    let config = bitmap.picture.config in
    numbered (pool_put maximum size config bitmap groups)
    ≡ pool_put maximum size config bitmap.number (numbered groups)

abbrev pub TrimsAlike : Type 0
TrimsAlike = (room : ℕ) (groups : List (Group BitmapValue))
    → numbered (pool_trim room groups) ≡ pool_trim room (numbered groups)

abbrev pub PicksAlike : Type 0
PicksAlike = (config : Config) (wanted : ℕ) (groups : List (Group BitmapValue))
    → picked_as number_in (pool_pick config wanted groups) ≡ pool_pick config wanted (numbered groups)
