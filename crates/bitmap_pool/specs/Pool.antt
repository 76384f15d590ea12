-- The bitmap pool on plain lists, for bitmaps of any kind: numbers in the engine's world, bitmaps in the pool itself.
-- Groups in order of use, the least size that is large enough, and the eviction from the tail are those of Glide's
-- LruBitmapPool with SizeConfigStrategy and GroupedLinkedMap; each detail of them, the factor 8 and the limits are this
-- project's own.
use Rattle.std.specs.Prelude.{ℕ, ◌+◌, ◌-◌, ◌*◌, Bool, not, ◌&&◌, ◌==◌, nat_lt, nat_le, List, [], ◌∷◌, ◌++◌, length, take, filter, flat_map, slice_get, replicate, Some, None, unwrap_or, if◌then◌else◌}
use Rattle.std.specs.List.{list_any}
use Rattle.std.specs.Option.{option_map}
use Rattle.std.specs.declared.option.Option.{Option}
use Rattle.bitmap_kind.specs.declared.bitmaps.Config.{Config}
use Rattle.bitmap_kind.specs.Picture.{BitmapValue, stored_size, reconfigured}
use Rattle.cache_key.specs.Key.{same_config}
use Rattle.fitting.specs.Fitting.{fitting}

-- the bitmaps of one allocation size and one config, in the order in which they were added; a group may be empty
pub record Group (A : Type 0) : Type 0 where
  pub size : ℕ
  pub config : Config
  pub items : List A

-- the bytes of all bitmaps
abbrev pub pool_size : {A : Type 0} → List (Group A) → ℕ
pool_size [] = 0
pool_size (g ∷ gs) = g.size * length g.items + pool_size gs

-- how many bitmaps there are
abbrev pub pool_count : {A : Type 0} → List (Group A) → ℕ
pool_count [] = 0
pool_count (g ∷ gs) = length g.items + pool_count gs

-- all bitmaps
abbrev pub pooled : {A : Type 0} → List (Group A) → List A
pooled groups = flat_map (λ g. g.items) groups

-- a group of this size and config
abbrev pub is_group : {A : Type 0} → ℕ → Config → Group A → Bool
is_group size config g = g.size == size && same_config g.config config

-- whether there is one
abbrev pub has_group : {A : Type 0} → ℕ → Config → List (Group A) → Bool
has_group size config groups = list_any (is_group size config) groups

-- a group with no bitmap
abbrev pub is_empty : {A : Type 0} → Group A → Bool
is_empty g = length g.items == 0

-- the bitmaps of this size and config
abbrev pub items_of : {A : Type 0} → ℕ → Config → List (Group A) → List A
items_of size config groups = pooled (filter (is_group size config) groups)

-- the groups of another size or config
abbrev pub others_of : {A : Type 0} → ℕ → Config → List (Group A) → List (Group A)
others_of size config groups = filter (λ g. not (is_group size config g)) groups

-- ---- eviction

-- What stays within a room and so many slots: from the head all that fits. The group in which the first bitmap does not fit
-- keeps those before it, even none, and the groups after it go.
abbrev pub pool_within : {A : Type 0} → (room slots : ℕ) → List (Group A) → List (Group A)
pool_within room slots [] = []
pool_within room slots (g ∷ gs) =
    let n = fitting (λ _. g.size) room slots g.items in
    if n == length g.items
    then g ∷ pool_within (room - g.size * length g.items) (slots - length g.items) gs
    else record g { items = take n g.items } ∷ []

-- what stays within a size: at most 1,024 bitmaps
abbrev pub pool_trim : {A : Type 0} → ℕ → List (Group A) → List (Group A)
pool_trim room groups = pool_within room 1024 groups

-- ---- adding

-- items without the last that passes, if one does
abbrev pub without_last : {A : Type 0} → (A → Bool) → List A → List A
without_last p [] = []
without_last p (x ∷ xs) = if list_any p xs then x ∷ without_last p xs else if p x then xs else x ∷ xs

-- groups with room for one more, since there are at most 2,048: where they are as many, without the empty one nearest
-- the tail
abbrev pub with_room : {A : Type 0} → List (Group A) → List (Group A)
with_room groups = if nat_lt (length groups) 2048 then groups else without_last is_empty groups

-- groups among which there is room for one of this size and config, where there is none yet
abbrev pub with_room_for : {A : Type 0} → ℕ → Config → List (Group A) → List (Group A)
with_room_for size config groups = if has_group size config groups then groups else with_room groups

-- a bitmap last in its group; a new group stands at the tail
abbrev pub add_last : {A : Type 0} → ℕ → Config → A → List (Group A) → List (Group A)
add_last size config x [] = record { size = size; config = config; items = x ∷ [] } ∷ []
add_last size config x (g ∷ gs) =
    if is_group size config g then record g { items = g.items ++ x ∷ [] } ∷ gs
    else g ∷ add_last size config x gs

-- A bitmap is put into a pool of this maximum: one that is larger is recycled, any other is added, and then what does
-- not fit goes.
abbrev pub pool_put : {A : Type 0} → (maximum size : ℕ) → Config → A → List (Group A) → List (Group A)
pool_put maximum size config x groups =
    if nat_lt maximum size then groups
    else pool_trim maximum (add_last size config x (with_room_for size config groups))

-- ---- looking up

-- the lesser of a number and another, if there is another
abbrev pub least_with : ℕ → Option ℕ → ℕ
least_with n None = n
least_with n (Some m) = if nat_lt m n then m else n

-- the least size of a bitmap of this config within these bounds
abbrev pub least_size : {A : Type 0} → Config → (low high : ℕ) → List (Group A) → Option ℕ
least_size config low high [] = None
least_size config low high (g ∷ gs) =
    if same_config g.config config && not (is_empty g) && nat_le low g.size && nat_le g.size high
    then Some (least_with g.size (least_size config low high gs)) else least_size config low high gs

-- the size that serves a wanted one: the least that is large enough and at most 8 times as large, else the wanted one
abbrev pub serving_size : {A : Type 0} → Config → ℕ → List (Group A) → ℕ
serving_size config wanted groups = unwrap_or (least_size config wanted (8 * wanted) groups) wanted

-- a bitmap that the pool gave, or none, with its allocation; and the groups afterwards
pub record Picked (A : Type 0) : Type 0 where
  pub found : Option A
  pub size : ℕ
  pub groups : List (Group A)

-- Among groups with room for one of this size and config: that one comes to the head, an empty one or a new one too,
-- and the bitmap that was added to it last comes out.
abbrev pub pick_among : {A : Type 0} → ℕ → Config → List (Group A) → Picked A
pick_among size config groups =
    let items = items_of size config groups in
    let rest = take (length items - 1) items in
    record {
      found = slice_get items (length items - 1);
      size = size;
      groups = record { size = size; config = config; items = rest } ∷ others_of size config groups;
    }

abbrev pub pick_at : {A : Type 0} → ℕ → Config → List (Group A) → Picked A
pick_at size config groups = pick_among size config (with_room_for size config groups)

-- what a look-up for a wanted size and config gives, and what it leaves
abbrev pub pool_pick : {A : Type 0} → Config → (wanted : ℕ) → List (Group A) → Picked A
pool_pick config wanted groups = pick_at (serving_size config wanted groups) config groups

-- ---- the pool itself

-- what contracts see of a pool: the most that its bitmaps may have together, in bytes, and its groups
pub record PoolValue : Type 0 where
  pub maximum : ℕ
  pub groups : List (Group BitmapValue)

-- a bitmap is put into a pool
abbrev pub put_into : PoolValue → BitmapValue → PoolValue
put_into pool bitmap = record pool {
  groups = pool_put pool.maximum bitmap.allocation bitmap.picture.config bitmap pool.groups;
}

-- a pool is asked for a bitmap of these sides and this config
abbrev pub picked_from : PoolValue → (width height : ℕ) → Config → Picked BitmapValue
picked_from pool width height config = pool_pick config (stored_size width height config) pool.groups

-- the bitmap that it gives, seen so
abbrev pub dirty_from : PoolValue → (width height : ℕ) → Config → Option BitmapValue
dirty_from pool width height config =
    option_map (λ b. reconfigured b width height config) (picked_from pool width height config).found

-- and what it leaves
abbrev pub left_from : PoolValue → (width height : ℕ) → Config → PoolValue
left_from pool width height config =
    record pool { groups = (picked_from pool width height config).groups }

-- a bitmap all of whose stored bytes are 0
abbrev pub erased : BitmapValue → BitmapValue
erased bitmap = record bitmap {
  picture = record bitmap.picture {
    bytes = replicate (stored_size bitmap.picture.width bitmap.picture.height bitmap.picture.config) 0;
  };
}
