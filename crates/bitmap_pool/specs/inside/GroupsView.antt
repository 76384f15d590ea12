-- How the groups are stored: their sizes and configs from head to tail, and all bitmaps in order of adding. It is this
-- project's own.
use Rattle.std.specs.Prelude.{◌≡◌, ℕ, ◌*◌, ◌≤◌, ◌==◌, nat_le, Bool, true, false, not, ◌&&◌, List, [], ◌∷◌, length, map, filter, vec_capacity}
use Rattle.std.specs.List.{list_any}
use Rattle.bitmap_kind.specs.declared.bitmaps.Config.{Config}
use Rattle.bitmap_kind.specs.Picture.{BitmapValue}
use Rattle.cache_key.specs.Key.{same_config}
use Rattle.bitmap_pool.specs.Pool.{Group}
use Rattle.bitmap_pool.specs.declared.groups.GroupKey.{GroupKey}
use Rattle.bitmap_pool.specs.declared.groups.Groups.TheInside.{Inside}

-- a group of this size and config
abbrev pub is_key : ℕ → Config → GroupKey → Bool
is_key size config key = key.size == size && same_config key.config config

abbrev pub has_key : ℕ → Config → List GroupKey → Bool
has_key size config keys = list_any (is_key size config) keys

-- a bitmap of a group of this size and config
abbrev pub is_of : ℕ → Config → BitmapValue → Bool
is_of size config bitmap = size == bitmap.allocation && same_config config bitmap.picture.config

abbrev pub group_of : List BitmapValue → GroupKey → Group BitmapValue
group_of bitmaps key = record {
  size = key.size;
  config = key.config;
  items = filter (is_of key.size key.config) bitmaps;
}

abbrev pub allocation_in : BitmapValue → ℕ
allocation_in bitmap = bitmap.allocation

-- a group that has no bitmap
abbrev pub is_bare : List BitmapValue → GroupKey → Bool
is_bare bitmaps key = not (list_any (is_of key.size key.config) bitmaps)

-- A group may serve a wanted size: it has a bitmap, of this config, large enough and at most 8 times as large.
abbrev pub serves : Config → ℕ → List BitmapValue → GroupKey → Bool
serves config wanted bitmaps key =
    same_config key.config config && not (is_bare bitmaps key)
    && nat_le wanted key.size && nat_le key.size (8 * wanted)

abbrev pub groups_of : List GroupKey → List BitmapValue → List (Group BitmapValue)
groups_of keys bitmaps = map (group_of bitmaps) keys

-- No two groups have one size and one config.
abbrev pub KeysApart : List GroupKey → Type 0
KeysApart [] = Unit {0}
KeysApart (key ∷ keys) = (has_key key.size key.config keys ≡ false) × KeysApart keys

-- Each bitmap has a group.
abbrev pub ArePlaced : List GroupKey → List BitmapValue → Type 0
ArePlaced keys [] = Unit {0}
ArePlaced keys (b ∷ bitmaps) =
    (has_key b.allocation b.picture.config keys ≡ true) × ArePlaced keys bitmaps

-- Both vectors have room for as many as a pool may have, and one more: the bitmap that a put adds before it evicts, and
-- the group that a look-up puts at the head.
pub record IsStored (s : Inside) : Type 0 where
  pub apart : KeysApart s.keys.items
  pub placed : ArePlaced s.keys.items s.bitmaps.items
  pub few_groups : length s.keys.items ≤ 2048
  pub few_bitmaps : length s.bitmaps.items ≤ 1025
  pub group_room : 2049 ≤ vec_capacity s.keys
  pub bitmap_room : 1025 ≤ vec_capacity s.bitmaps
