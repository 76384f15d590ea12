-- How the entries of the table are seen. It is this project's own, as the entries are.
use Rattle.std.specs.Prelude.{◌≡◌, ℕ, ◌≤◌, ◌<◌, ◌^◌, List, [], ◌∷◌, length, map, None, vec_capacity}
use Rattle.std.specs.declared.option.Option.{Option}
use Rattle.std.specs.Option.{option_map}
use Rattle.std.specs.FinMap.{from_entries, find}
use Rattle.load_table.specs.declared.loads.LoadState.{LoadState}
use Rattle.load_table.specs.declared.loads.Settle.{Settle}
use Rattle.load_table.specs.declared.loads.LoadEntry.{LoadEntry}
use Rattle.load_table.specs.declared.loads.LoadTable.TheInside.{Inside}
use Rattle.load_table.specs.Loads.{LoadName, load_cmp, Loads, LoadsValue, settled}

-- the load that an entry is of
abbrev pub name_of : {C : Type 0} → LoadEntry C → LoadName
name_of entry = (entry.owner, entry.number)

-- an entry of the vector as one of a finite map
abbrev pub entry_of : {C : Type 0} → LoadEntry C → LoadName × LoadState C
entry_of entry = (name_of entry, entry.state)

-- the finite map of a vector's entries
unfoldable pub loads_of : {C : Type 0} → List (LoadEntry C) → Loads C
loads_of entries = from_entries (map entry_of entries)

-- No two entries are of one load.
abbrev pub AreApart : {C : Type 0} → List (LoadEntry C) → Type 0
AreApart [] = Unit {0}
AreApart (entry ∷ entries) =
    (find load_cmp (name_of entry) (map entry_of entries) ≡ None) × AreApart entries

-- the entry of this load, if there is one
abbrev pub found_as : {C : Type 0} → LoadName → List (LoadEntry C) → Option (LoadName × LoadState C)
found_as name entries = option_map (λ state. (name, state)) (find load_cmp name (map entry_of entries))

-- an entry as it is when a job has ended so
abbrev pub settled_entry : {C : Type 0} → ℕ → Settle C → LoadEntry C → LoadEntry C
settled_entry job to entry = record entry { state = settled job to entry.state }

abbrev pub value_of : {C : Type 0} → Inside C → LoadsValue C
value_of s = record { room = s.room; loads = loads_of s.entries.items }

-- The vector has its room, and holds each load once.
pub record IsTable {C : Type 0} (s : Inside C) : Type 0 where
  pub apart : AreApart s.entries.items
  pub within : length s.entries.items ≤ s.room
  pub reserved : s.room ≤ vec_capacity s.entries
  pub small : s.room < 2 ^ 32
