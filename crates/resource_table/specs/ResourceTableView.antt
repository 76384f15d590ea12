-- How the resources of the table are seen. It is this project's own, as the vector is.
use Rattle.std.specs.Prelude.{◌≡◌, ℕ, ◌≤◌, List, [], ◌∷◌, length, map, None, vec_capacity}
use Rattle.std.specs.Ordering.{nat_cmp}
use Rattle.std.specs.FinMap.{from_entries, find}
use Rattle.engine_resource.specs.Resource.{ResourceValue}
use Rattle.resource_table.specs.declared.resource_map.ResourceTable.TheInside.{Inside}
use Rattle.resource_table.specs.Resources.{Resources, ResourceTableValue}

-- a resource as an entry of a finite map: its number is its bitmap's
abbrev pub entry_of : ResourceValue → ℕ × ResourceValue
entry_of resource = (resource.bitmap.number, resource)

-- the finite map of a vector's resources
unfoldable pub resources_of : List ResourceValue → Resources
resources_of entries = from_entries (map entry_of entries)

-- No two have one number.
abbrev pub AreApart : List ResourceValue → Type 0
AreApart [] = Unit {0}
AreApart (resource ∷ entries) = (find nat_cmp resource.bitmap.number (map entry_of entries) ≡ None) × AreApart entries

abbrev pub value_of : Inside → ResourceTableValue
value_of s = record { room = s.room; resources = resources_of s.entries.items }

-- The vector has its room, and each number once.
pub record IsTable (s : Inside) : Type 0 where
  pub apart : AreApart s.entries.items
  pub within : length s.entries.items ≤ s.room
  pub reserved : s.room ≤ vec_capacity s.entries
