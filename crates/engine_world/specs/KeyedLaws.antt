-- A test of a resource's key, or of a job's kind, passes just where key or kind is the one asked for.
use Rattle.std.proofs.Common.{◌≡◌, ℕ, Bool, true, false, Some, None, Option, refl, ap, ◌∙◌}
use Rattle.std.specs.FinMap.{get}
use Rattle.cache_key.specs.Key.{Key}
use Rattle.cache_key.specs.KeyLaws.{same_key-is, same_key-of}
use Rattle.job_table.specs.Jobs.{same_kind}
use Rattle.engine_world.specs.World.{Resource, Resources}
use Rattle.engine_world.specs.Moves.{key_is, has_key}

pub same_kind-is : (a b : Bool) → same_kind a b ≡ true → a ≡ b
same_kind-is true true e = refl
same_kind-is true false e = cc
same_kind-is false true e = cc
same_kind-is false false e = refl

pub same_kind-itself : (a : Bool) → same_kind a a ≡ true
same_kind-itself true = refl
same_kind-itself false = refl

-- a resource that has a key is there, with it
pub key_is-found : (key : Key) (o : Option Resource) → key_is key o ≡ true → (resource : Resource) × (o ≡ Some resource) × (resource.key ≡ key)
key_is-found key None e = cc
key_is-found key (Some resource) e = (resource, refl, same_key-is resource.key key e)

pub has_key-found : (resources : Resources) (key : Key) (r : ℕ) → has_key resources key r ≡ true → (resource : Resource) × (get resources r ≡ Some resource) × (resource.key ≡ key)
has_key-found resources key r e = key_is-found key (get resources r) e

pub has_key-there : (resources : Resources) (key : Key) (r : ℕ) (resource : Resource) → get resources r ≡ Some resource → resource.key ≡ key → has_key resources key r ≡ true
has_key-there resources key r resource at is = ap (key_is key) at ∙ same_key-of resource.key key is
