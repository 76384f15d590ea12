use Rattle.finite_maps.specs.MapLaws.{get-map_values, total-map_values}
use Rattle.finite_maps.proofs.changed_values_are_found.Goals as goal

pub returns-clause-found : goal.returns-clause-found
returns-clause-found g c R f m k = get-map_values R f m k

pub returns-clause-sum : goal.returns-clause-sum
returns-clause-sum g c R f h m = total-map_values R f h m
