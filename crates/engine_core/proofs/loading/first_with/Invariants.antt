use Rattle.std.proofs.Common.{◌≡◌, drop, map}
use Rattle.std.specs.List.{find}
use Rattle.finite_maps.specs.Maps.{map_values}
use Rattle.memory_cache.specs.Cache.{number_in}
use Rattle.engine_world.specs.Moves.{has_key}
use Rattle.engine_core.specs.Loading.{AllThere}
use Rattle.engine_core.specs.TablesView.{resource_in}
use Rattle.engine_core.proofs.loading.first_with.Given as goal

-- none of those that the loop has passed has the key
abbrev pub invariant-loop-item : goal.invariant-loop-item
invariant-loop-item l =
    (find (has_key (map_values resource_in l.resources.resources) l.key) (map number_in (drop l.item-index l.items)) ≡ find (has_key (map_values resource_in l.resources.resources) l.key) (map number_in l.items))
    × AllThere l.resources.resources (drop l.item-index l.items)
