-- Worked examples of the memory cache. They are this project's own.
use Rattle.std.specs.Prelude.{◌≡◌, ℕ, List}
use Rattle.std.specs.declared.option.Option.{Option}
use Rattle.memory_cache.specs.Cache.{size_in, cache_kept, cache_gone, is_over, given_up, left_after}

-- Cut to a size, this stays and this goes.
abbrev pub Cuts : List (ℕ × ℕ) → ℕ → List (ℕ × ℕ) → List (ℕ × ℕ) → Type 0
Cuts items room kept gone =
    (cache_kept size_in room items ≡ kept) × (cache_gone size_in room items ≡ gone)

-- One call gives this item up or none, and leaves these.
abbrev pub GivesUp : List (ℕ × ℕ) → (maximum : ℕ) → Option (ℕ × ℕ) → List (ℕ × ℕ) → Type 0
GivesUp items maximum item left =
    let over = is_over size_in maximum items in
    (given_up over items ≡ item) × (left_after over items ≡ left)
