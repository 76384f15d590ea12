-- Eviction one by one, as a loop does it, and its law: it ends in what stays within the limits. Taking the last bitmap
-- of the tail group, and dropping an empty group that is met there, is the rule of Glide's LruBitmapPool
-- (GroupedLinkedMap.removeLast).
use Rattle.std.specs.Prelude.{◌≡◌, ℕ, ◌-◌, ◌<◌, ◌≤◌, ◌⊎◌, List, [], ◌∷◌, length, take, if◌then◌else◌}
use Rattle.bitmap_pool.specs.Pool.{Group, pool_size, pool_count, is_empty, pool_within}

-- the tail group without its last bitmap, or gone where it is empty
abbrev pub evict_one : {A : Type 0} → List (Group A) → List (Group A)
evict_one [] = []
evict_one (g ∷ []) =
    if is_empty g then [] else record g { items = take (length g.items - 1) g.items } ∷ []
evict_one (g ∷ h ∷ gs) = g ∷ evict_one (h ∷ gs)

-- a pool is over where its bytes are more than the room, or its bitmaps more than the slots
abbrev pub IsPoolOver : {A : Type 0} → (room slots : ℕ) → List (Group A) → Type 0
IsPoolOver room slots groups = (room < pool_size groups) ⊎ (slots < pool_count groups)

-- What one eviction does to a pool that is over changes nothing of what stays in the end.
abbrev pub EvictionsEnd : Type 0 → Type 0
EvictionsEnd A = (room slots : ℕ) (groups : List (Group A)) → IsPoolOver room slots groups
    → pool_within room slots (evict_one groups) ≡ pool_within room slots groups

-- And a pool that is not over stays as it is.
abbrev pub NoEviction : Type 0 → Type 0
NoEviction A = (room slots : ℕ) (groups : List (Group A)) → pool_size groups ≤ room → pool_count groups ≤ slots
    → pool_within room slots groups ≡ groups
