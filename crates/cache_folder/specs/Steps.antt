-- A disk cache as a list of entries, the eldest first, and its steps. It is this project's own view of DiskLruCache: an
-- entry under edit is marked, so that a stop would lose it, and what is readable stays readable beside it.
use Rattle.std.specs.Prelude.{◌≢◌, ⊤, ℕ, Bool, true, false, List, [], ◌∷◌, ◌++◌, Some, None, option_and_then}
use Rattle.std.specs.declared.option.Option.{Option}
use Rattle.disk_table.specs.UseOrder.{without, value_at, newest, used}

-- what a key has: its values where they are readable, and whether it is marked
pub record Entry (V : Type 0) : Type 0 where
  pub values : Option V
  pub marked : Bool

-- the entries, the eldest first
abbrev pub Cached : Type 0 → Type 0
Cached V = List (List ℕ × Entry V)

pub data CacheStep (V : Type 0) : Type 0 where
  Doubt : (key : List ℕ) → CacheStep V
  Commit : (key : List ℕ) → (values : V) → CacheStep V
  Restore : (key : List ℕ) → CacheStep V
  Use : (key : List ℕ) → CacheStep V
  Drop : (key : List ℕ) → CacheStep V

abbrev pub values_at : {V : Type 0} → List ℕ → Cached V → Option V
values_at key es = option_and_then (λ e. e.values) (value_at key es)

-- one step: all but a drop make the key the most recent
abbrev pub stepped : {V : Type 0} → Cached V → CacheStep V → Cached V
stepped es (Doubt key) = newest key record { values = values_at key es; marked = true } es
stepped es (Commit key values) = newest key record { values = Some values; marked = false } es
stepped es (Restore key) = newest key record { values = values_at key es; marked = false } es
stepped es (Use key) = used key es
stepped es (Drop key) = without key es

abbrev pub all_stepped : {V : Type 0} → Cached V → List (CacheStep V) → Cached V
all_stepped es [] = es
all_stepped es (step ∷ steps) = all_stepped (stepped es step) steps

-- the key and values of an entry that is readable and not marked
abbrev pub offer_of : {V : Type 0} → List ℕ → Bool → Option V → List (List ℕ × V)
offer_of key true values = []
offer_of key false None = []
offer_of key false (Some values) = (key, values) ∷ []

-- the values of an entry, where it is not marked
abbrev pub unmarked : {V : Type 0} → Bool → Option V → Option V
unmarked true values = None
unmarked false values = values

-- what the list answers for a key: its values, where they are readable and not marked
abbrev pub answer_at : {V : Type 0} → List ℕ → Cached V → Option V
answer_at key es = option_and_then (λ e. unmarked e.marked e.values) (value_at key es)

-- the step leaves what the list answers for the key: it is on another key, or it uses an entry
abbrev pub Leaves : {V : Type 0} → List ℕ → CacheStep V → Type 0
Leaves key (Doubt k) = key ≢ k
Leaves key (Commit k values) = key ≢ k
Leaves key (Restore k) = key ≢ k
Leaves key (Use k) = ⊤
Leaves key (Drop k) = key ≢ k

-- what the list offers: the marked are left out
abbrev pub offers : {V : Type 0} → Cached V → List (List ℕ × V)
offers [] = []
offers (e ∷ es) = offer_of e.0 e.1.marked e.1.values ++ offers es
