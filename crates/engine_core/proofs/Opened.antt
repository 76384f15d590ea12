-- What the tables have when there is nothing in them.
use Rattle.std.proofs.Common.{◌≡◌, ℕ, List, [], ◌∷◌, length, refl, ap, sym, ◌∙◌}
use Rattle.std.specs.Prelude.{replicate}
use Rattle.std.specs.Ordering.{nat_cmp}
use Rattle.std.specs.FinMap.{empty, entries, len-empty, len-entries, empty_of_len}
use Rattle.std.proofs.lemmas.List.{nil_from_length}
use Rattle.finite_maps.specs.Maps.{sum_over, total, map_values}
use Rattle.engine_world.specs.World.{none_begun}
use Rattle.engine_core.proofs.Finding.{len-map_values}

-- nothing in it stays nothing where each value is changed
pub none_changed : {X Y : Type 0} (f : X → Y) → map_values f (empty {X = X} {R = nat_cmp}) ≡ empty
none_changed {X} f = empty_of_len (map_values f empty) (len-map_values f empty ∙ len-empty nat_cmp X)

-- and the sum over it is 0
pub none_sum : {X : Type 0} (f : ℕ → X → ℕ) → total f (empty {X = X} {R = nat_cmp}) ≡ 0
unfolding total
none_sum {X} f = ap (sum_over f) (nil_from_length (entries empty) (sym (len-entries empty) ∙ len-empty nat_cmp X))

-- no load of each seat yet
pub none_begun_is : (quotas : List ℕ) → replicate (length quotas) 0 ≡ none_begun quotas
none_begun_is [] = refl
none_begun_is (q ∷ quotas) = ap (λ l. 0 ∷ l) (none_begun_is quotas)
