-- Giving up the eldest again and again ends in what fits. It is this project's own.
use Rattle.std.specs.Prelude.{◌≡◌, ℕ, ◌-◌, ◌≤◌, List, [], ◌∷◌, length, take, slice_get, sum_by, Some}
use Rattle.fitting.specs.Prefixes.{IsOver}
use Rattle.memory_cache.specs.Cache.{cache_kept, cache_gone}

-- The eldest of a cache that is over is the first that goes, and what stays stays.
abbrev pub EldestGoes : Type 0 → Type 0
EldestGoes A = (size : A → ℕ) (room : ℕ) (items : List A) (eldest : A)
    → IsOver size room 1024 items → slice_get items (length items - 1) ≡ Some eldest →
    let younger = take (length items - 1) items in
    (cache_kept size room younger ≡ cache_kept size room items)
    × (cache_gone size room items ≡ eldest ∷ cache_gone size room younger)

-- And where it is not over all stay.
abbrev pub NoneGoes : Type 0 → Type 0
NoneGoes A = (size : A → ℕ) (room : ℕ) (items : List A) → sum_by size items ≤ room → length items ≤ 1024
    → (cache_kept size room items ≡ items) × (cache_gone size room items ≡ [])
