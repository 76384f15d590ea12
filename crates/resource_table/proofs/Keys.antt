-- The keys of a table's resources.
use Rattle.std.proofs.Common.{◌≡◌, ℕ, true, Some, None, Option, ap, ◌∙◌, refl}
use Rattle.std.specs.Prelude.{IsSome, is_some}
use Rattle.std.specs.Option.{option_map}
use Rattle.std.specs.Ordering.{nat_cmp}
use Rattle.std.specs.FinMap.{get}
use Rattle.finite_maps.specs.MapLaws.{get-map_values}
use Rattle.cache_key.specs.Key.{Key}
use Rattle.engine_resource.specs.Resource.{ResourceValue}
use Rattle.resource_table.specs.Resources.{Resources, keys_of}

abbrev pub key_in : ResourceValue → Key
key_in resource = resource.key

pub keyed : (o : Option ResourceValue) → is_some (option_map key_in o) ≡ true → is_some o ≡ true
keyed None is = cc
keyed (Some x) is = refl

has_key : (o : Option ResourceValue) → is_some o ≡ true → is_some (option_map key_in o) ≡ true
has_key None is = cc
has_key (Some x) is = refl

-- a number that has a resource has a key
pub known : (m : Resources) (q : ℕ) → IsSome (get m q) → IsSome (get (keys_of m) q)
known m q is = ap is_some (get-map_values nat_cmp key_in m q) ∙ has_key (get m q) is
