-- The resources of the engine by their numbers. That loads share a resource is Glide's EngineResource; a table of them by numbers is this project's own.
use Rattle.std.specs.Prelude.{ℕ}
use Rattle.std.specs.Ordering.{nat_cmp}
use Rattle.std.specs.FinMap.{FinMap}
use Rattle.cache_key.specs.KeyOf.{KeyMap}
use Rattle.engine_resource.specs.Resource.{ResourceValue}
use Rattle.finite_maps.specs.Maps.{map_values}

-- a resource for each of finitely many numbers
abbrev pub Resources : Type 0
Resources = FinMap nat_cmp ResourceValue

-- what contracts see of a table: how many resources it has room for, and those that it has
pub record ResourceTableValue : Type 0 where
  pub room : ℕ
  pub resources : Resources

-- the key that each resource was loaded for
abbrev pub keys_of : Resources → KeyMap
keys_of resources = map_values (λ (resource : ResourceValue). resource.key) resources
