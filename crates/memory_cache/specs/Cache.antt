-- The memory cache on plain lists, the most recent first, for items of any kind with a size. That the eldest go first,
-- and that they go where the sizes are above the maximum, is Glide's LruCache. The limit on items, and what is too large,
-- are this project's own.
use Rattle.std.specs.Prelude.{ℕ, ◌-◌, ◌==◌, Bool, not, ◌||◌, nat_lt, nat_le, List, length, take, drop, filter, reverse, slice_get, sum_by, None, if◌then◌else◌}
use Rattle.std.specs.declared.option.Option.{Option}
use Rattle.std.specs.List.{list_any}
use Rattle.fitting.specs.Fitting.{fitting}

-- what is not put into a cache of this maximum
abbrev pub is_too_large : (maximum size : ℕ) → Bool
is_too_large maximum size = nat_le maximum size

-- what stays within a size: from the most recent all that fits, at most 1,024
abbrev pub cache_kept : {A : Type 0} → (A → ℕ) → ℕ → List A → List A
cache_kept size room items = take (fitting size room 1024 items) items

-- what goes, the eldest first
abbrev pub cache_gone : {A : Type 0} → (A → ℕ) → ℕ → List A → List A
cache_gone size room items = reverse (drop (fitting size room 1024 items) items)

-- ---- one step of it: what the calls of the cache answer

-- whether the sizes are more than a room
abbrev pub is_above : {A : Type 0} → (A → ℕ) → ℕ → List A → Bool
is_above size room items = nat_lt room (sum_by size items)

-- whether a cache of this maximum has to give an item up
abbrev pub is_over : {A : Type 0} → (A → ℕ) → ℕ → List A → Bool
is_over size maximum items = is_above size maximum items || nat_lt 1024 (length items)

-- the eldest, where it has to go
abbrev pub given_up : {A : Type 0} → Bool → List A → Option A
given_up goes items = if goes then slice_get items (length items - 1) else None

-- and what is left
abbrev pub left_after : {A : Type 0} → Bool → List A → List A
left_after goes items = if goes then take (length items - 1) items else items

-- ---- a cache of numbers with sizes

-- an item's number and its size in bytes
abbrev pub number_in : ℕ × ℕ → ℕ
number_in item = item.0

abbrev pub size_in : ℕ × ℕ → ℕ
size_in item = item.1

-- whether a number is there
abbrev pub has_number : ℕ → List (ℕ × ℕ) → Bool
has_number number items = list_any (λ item. number_in item == number) items

-- the items of other numbers
abbrev pub without : ℕ → List (ℕ × ℕ) → List (ℕ × ℕ)
without number items = filter (λ item. not (number_in item == number)) items

-- what contracts see of a cache: the most that its sizes may be together, and its items
pub record CacheValue : Type 0 where
  pub maximum : ℕ
  pub items : List (ℕ × ℕ)
