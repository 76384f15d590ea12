-- Entries by key in order of use, the eldest first: DiskLruCache keeps its entries in a `LinkedHashMap` of this order.
use Rattle.std.specs.Prelude.{◌≢◌, ℕ, ◌<◌, ◌^◌, Bool, List, [], ◌∷◌, ◌++◌, Some, None, ⊤, is_some, sum_by, unwrap_or, if◌then◌else◌}
use Rattle.std.specs.declared.option.Option.{Option}
use Rattle.std.specs.List.{AllByRecursion}
use Rattle.std.specs.Str.{bytes_eq}

-- a key, as the list of its bytes, and what is kept for it
abbrev pub Entries : Type 0 → Type 0
Entries V = List (List ℕ × V)

-- the entries of all other keys
abbrev pub without : {V : Type 0} → List ℕ → Entries V → Entries V
without key [] = []
without key (e ∷ es) = if bytes_eq key e.0 then without key es else e ∷ without key es

-- what is kept for the key
abbrev pub value_at : {V : Type 0} → List ℕ → Entries V → Option V
value_at key [] = None
value_at key (e ∷ es) = if bytes_eq key e.0 then Some e.1 else value_at key es

abbrev pub is_known : {V : Type 0} → List ℕ → Entries V → Bool
is_known key es = is_some (value_at key es)

-- the key has this value now, and is the most recent; an unknown key is added
abbrev pub newest : {V : Type 0} → List ℕ → V → Entries V → Entries V
newest key value es = without key es ++ (key, value) ∷ []

-- the key is the most recent, with this value where there is one
abbrev pub renewed : {V : Type 0} → List ℕ → Option V → Entries V → Entries V
renewed key None es = es
renewed key (Some value) es = newest key value es

-- a known key is the most recent
abbrev pub used : {V : Type 0} → List ℕ → Entries V → Entries V
used key es = renewed key (value_at key es) es

-- each key once
abbrev pub IsOnce : {V : Type 0} → Entries V → Type 0
IsOnce [] = ⊤
IsOnce (e ∷ es) = AllByRecursion (λ x. x.0 ≢ e.0) es × IsOnce es

-- ---- entries with the lengths of their values

-- a length of a readable value is below 2^40
abbrev pub IsShort : Option ℕ → Type 0
IsShort None = ⊤
IsShort (Some length) = length < 2 ^ 40

-- what an entry adds to the size: the length of its readable value
abbrev pub length_in : List ℕ × Option ℕ → ℕ
length_in e = unwrap_or e.1 0

abbrev pub size_of : Entries (Option ℕ) → ℕ
size_of es = sum_by length_in es
