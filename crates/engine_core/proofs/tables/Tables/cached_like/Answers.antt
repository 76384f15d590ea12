use Rattle.std.proofs.Common.{◌≡◌, ℕ, List, map, ap, sym, subst, ◌∙◌}
use Rattle.std.specs.Prelude.{is_some}
use Rattle.std.specs.List.{find}
use Rattle.finite_maps.specs.Maps.{map_values}
use Rattle.memory_cache.specs.Cache.{number_in}
use Rattle.cache_key.specs.Key.{Key}
use Rattle.engine_world.specs.World.{Resource, Resources, World}
use Rattle.engine_world.specs.Moves.{has_key, cached_of}
use Rattle.engine_core.specs.Releasing.{AreCached}
use Rattle.engine_core.specs.Loading.{AllThere}
use Rattle.engine_core.specs.TablesView.{resource_in, world_of}
use Rattle.engine_core.proofs.Joins.{there}
use Rattle.engine_core.proofs.Caching.{all_there, same_resource}
use Rattle.engine_core.proofs.tables.Tables.cached_like.Goals as goal

pub get-requires : goal.get-requires
get-requires c = there c.self.inside c.args.self.now c.args.number c.self.view_is (ap is_some c.requires.there)

pub first_with-requires : goal.first_with-requires
first_with-requires c =
    let are : AreCached (world_of c.self.inside) = subst AreCached (sym c.self.view_is) c.requires.cached in
    subst (AllThere c.self.inside.resources.resources) (sym c.items.ensures) (all_there c.self.inside.resources.resources c.self.inside.cache.items are.there)

pub returns : goal.returns
returns c = λ resource at.
    let m : Resources = map_values resource_in c.self.inside.resources.resources in
    let key : c.key-key.result.now ≡ resource.key = c.key-key.ensures ∙ ap (λ (r : Resource). r.key) (same_resource c.self.inside c.args.self.now c.args.number c.get.result.now resource c.self.view_is c.get.ensures.resource at) in
    c.first_with.ensures
    ∙ ap (λ (l : List (ℕ × ℕ)). find (has_key m c.key-key.result.now) (map number_in l)) c.items.ensures
    ∙ ap (λ (k : Key). find (has_key m k) (map number_in c.self.inside.cache.items)) key
    ∙ ap (λ (w : World). cached_of w.resources w.cached resource.key) c.self.view_is
