use Rattle.std.proofs.Common.{◌≡◌, ℕ, List, map, ap, sym, subst, ◌∙◌}
use Rattle.finite_maps.specs.Maps.{map_values}
use Rattle.memory_cache.specs.Cache.{CacheValue, number_in}
use Rattle.engine_world.specs.World.{World}
use Rattle.engine_world.specs.Places.{occurrences}
use Rattle.engine_world.specs.Moves.{without, to_pool}
use Rattle.engine_world.specs.OccurrenceLaws.{without_same}
use Rattle.engine_core.specs.declared.tables.Tables.TheInside.{Inside}
use Rattle.engine_core.specs.TablesView.{resource_in, world_of, SizesAre}
use Rattle.engine_core.proofs.Shrinking.{recached, sizes_filter}
use Rattle.engine_core.proofs.Caching.{without_numbers}
use Rattle.engine_core.proofs.tables.Tables.cached_to_pool.Goals as goal

pub invariant_of-self : goal.invariant_of-self
invariant_of-self c =
    recached c.self.inside c.remove.new.self
    (subst (λ (v : CacheValue). SizesAre (map_values resource_in c.self.inside.resources.resources) v.items) (sym c.remove.ensures.left)
    (sizes_filter (map_values resource_in c.self.inside.resources.resources) _ c.self.inside.cache.items c.self.invariant.sizes)) c.self.invariant

pub to_pool-requires-clause-uncached : goal.to_pool-requires-clause-uncached
to_pool-requires-clause-uncached c =
    ap (λ (v : CacheValue). occurrences c.args.number (map number_in v.items)) c.remove.ensures.left
    ∙ ap (occurrences c.args.number) (without_numbers c.args.number c.self.inside.cache.items)
    ∙ without_same c.args.number (map number_in c.self.inside.cache.items)

pub returns : goal.returns
returns c =
    let s : Inside = c.self.inside in
    let w : World = world_of s in
    let left : world_of (record s { cache = c.remove.new.self }) ≡ record w { cached = without c.args.number w.cached } =
    ap (λ (v : CacheValue). world_of (record s { cache = v })) c.remove.ensures.left
    ∙ ap (λ (l : List ℕ). record w { cached = l }) (without_numbers c.args.number s.cache.items) in
    c.to_pool.ensures ∙ ap (to_pool c.args.number) left
    ∙ ap (λ (v : World). to_pool c.args.number (record v { cached = without c.args.number v.cached })) c.self.view_is
