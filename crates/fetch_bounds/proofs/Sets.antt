-- What a set of numbers has after a change.
use Rattle.std.proofs.Common.{◌≡◌, ◌≢◌, ℕ, true, ap, ◌∙◌}
use Rattle.std.specs.Prelude.{not}
use Rattle.std.specs.Cmp.{nat_cmp_total}
use Rattle.std.specs.FinMap.{nat_cmp-IsAntisymmetric}
use Rattle.std.specs.FinSet as set
use Rattle.std.proofs.lemmas.Bool.{and_from, or_left, or_right}
use Rattle.finite_maps.specs.MapLaws.{key_itself, key_other}
use Rattle.active_resources.specs.Actives.{Numbers}

pub set_has : (s : Numbers) (k : ℕ) → set.contains (set.insert s k) k ≡ true
set_has s k = set.contains-insert nat_cmp_total s k k ∙ or_left _ _ (key_itself nat_cmp_total nat_cmp-IsAntisymmetric k)

pub set_keeps : (s : Numbers) (k q : ℕ) → set.contains s q ≡ true → set.contains (set.insert s k) q ≡ true
set_keeps s k q e = set.contains-insert nat_cmp_total s k q ∙ or_right _ _ e

pub set_leaves : (s : Numbers) (k q : ℕ) → q ≢ k → set.contains s q ≡ true → set.contains (set.remove s k) q ≡ true
set_leaves s k q ne e = set.contains-remove nat_cmp_total s k q ∙ and_from _ _ (ap not (key_other nat_cmp_total nat_cmp-IsAntisymmetric q k ne)) e
