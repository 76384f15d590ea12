use Rattle.std.proofs.Common.{◌≡◌, ℕ, Bool, Some, ap, sym, subst, ◌∙◌}
use Rattle.std.specs.FinMap.{get}
use Rattle.finite_maps.specs.Maps.{map_values}
use Rattle.memory_cache.specs.Cache.{CacheValue, number_in, size_in, is_above, is_over, left_after}
use Rattle.engine_world.specs.World.{World}
use Rattle.engine_world.specs.Places.{occurrences}
use Rattle.engine_world.specs.Moves.{to_pool, shrink_cache}
use Rattle.engine_core.specs.declared.tables.Tables.TheInside.{Inside}
use Rattle.engine_core.specs.Releasing.{AreCached}
use Rattle.engine_core.specs.TablesView.{resource_in, world_of, AreJoined}
use Rattle.engine_core.proofs.Shrinking.{recached, left_sizes, eldest_item, left_numbers, nothing_left, over_is, within_over, none_shrinks, IsEldest, eldest_there, eldest_once, eldest_shrinks, eldest_cached, evicted}
use Rattle.engine_core.proofs.tables.Tables.evict_over.Goals as goal

-- what is given up is the eldest
eldest : (s : Inside) (w : World) (goes : Bool) (number : ℕ) → world_of s ≡ w → AreCached w → Some number ≡ Rattle.std.specs.Option.option_map number_in (Rattle.memory_cache.specs.Cache.given_up goes s.cache.items) → IsEldest (world_of s) number
eldest s w goes number seen are is = record { last = (eldest_item goes s.cache.items number is).1; are = subst AreCached (sym seen) are }

pub invariant_of-self-in-Some : goal.invariant_of-self-in-Some
invariant_of-self-in-Some c =
    let goes : Bool = is_over size_in c.self.inside.cache.maximum c.self.inside.cache.items in
    recached c.self.inside c.over.new.self
    (subst (λ (v : CacheValue). Rattle.engine_core.specs.TablesView.SizesAre (map_values resource_in c.self.inside.resources.resources) v.items) (sym c.in-Some.ensures.left)
    (left_sizes (map_values resource_in c.self.inside.resources.resources) goes c.self.inside.cache.items c.self.invariant.sizes)) c.self.invariant

pub to_pool-requires-clause-there : goal.to_pool-requires-clause-there
to_pool-requires-clause-there c =
    let goes : Bool = is_over size_in c.self.inside.cache.maximum c.self.inside.cache.items in
    eldest_there (world_of c.self.inside) c.in-Some.number (eldest c.self.inside c.args.self.now goes c.in-Some.number c.self.view_is c.requires c.in-Some.ensures.value)

pub to_pool-requires-clause-uncached : goal.to_pool-requires-clause-uncached
to_pool-requires-clause-uncached c =
    let goes : Bool = is_over size_in c.self.inside.cache.maximum c.self.inside.cache.items in
    let yes = (eldest_item goes c.self.inside.cache.items c.in-Some.number c.in-Some.ensures.value).0 in
    ap (λ (w : World). occurrences c.in-Some.number w.cached) (left_numbers c.self.inside c.over.new.self goes yes c.in-Some.ensures.left)
    ∙ eldest_once (world_of c.self.inside) c.in-Some.number (eldest c.self.inside c.args.self.now goes c.in-Some.number c.self.view_is c.requires c.in-Some.ensures.value)

pub returns-in-Some-clause-same : goal.returns-in-Some-clause-same
returns-in-Some-clause-same c =
    let goes : Bool = is_over size_in c.self.inside.cache.maximum c.self.inside.cache.items in
    let w : World = world_of c.self.inside in
    let number : ℕ = c.in-Some.number in
    let yes = (eldest_item goes c.self.inside.cache.items number c.in-Some.ensures.value).0 in
    let is = eldest c.self.inside c.args.self.now goes number c.self.view_is c.requires c.in-Some.ensures.value in
    let left : c.to_pool.new.self ≡ evicted w number = c.to_pool.ensures ∙ ap (to_pool number) (left_numbers c.self.inside c.over.new.self goes yes c.in-Some.ensures.left) in
    let rooms : c.args.self.now.limits.memory ≡ c.self.inside.cache.maximum = ap (λ (w : World). w.limits.memory) (sym c.self.view_is) in
    ap (λ r. shrink_cache r c.to_pool.new.self) rooms ∙ ap (shrink_cache c.self.inside.cache.maximum) left
    ∙ eldest_shrinks w number c.self.inside.cache.maximum is c.eldest_goes_first.ensures.over (over_is (map_values resource_in c.self.inside.resources.resources) c.self.inside.cache.maximum c.self.inside.cache.items c.self.invariant.sizes yes)
    ∙ ap (λ r. shrink_cache r w) (sym rooms) ∙ ap (shrink_cache c.args.self.now.limits.memory) c.self.view_is

pub returns-in-Some-clause-cached : goal.returns-in-Some-clause-cached
returns-in-Some-clause-cached c =
    let goes : Bool = is_over size_in c.self.inside.cache.maximum c.self.inside.cache.items in
    let w : World = world_of c.self.inside in
    let number : ℕ = c.in-Some.number in
    let yes = (eldest_item goes c.self.inside.cache.items number c.in-Some.ensures.value).0 in
    let is = eldest c.self.inside c.args.self.now goes number c.self.view_is c.requires c.in-Some.ensures.value in
    subst AreCached (sym (c.to_pool.ensures ∙ ap (to_pool number) (left_numbers c.self.inside c.over.new.self goes yes c.in-Some.ensures.left))) (eldest_cached w number is)

pub returns-in-None-clause-within : goal.returns-in-None-clause-within
returns-in-None-clause-within c = λ stays.
    let s : Inside = c.self.inside in
    let same : c.over.new.self ≡ s.cache = nothing_left s.cache c.over.new.self (is_over size_in s.cache.maximum s.cache.items) c.in-None.ensures.within c.in-None.ensures.left in
    let within = within_over (map_values resource_in s.resources.resources) s.cache.maximum s.cache.items c.self.invariant.sizes c.in-None.ensures.within in
    let rooms : c.args.self.now.limits.memory ≡ s.cache.maximum = ap (λ (w : World). w.limits.memory) (sym c.self.view_is) in
    ap (λ r. shrink_cache r (world_of (record s { cache = c.over.new.self }))) rooms
    ∙ subst (λ (v : CacheValue). shrink_cache s.cache.maximum (world_of (record s { cache = v })) ≡ world_of (record s { cache = v })) (sym same)
    (none_shrinks (world_of s) s.cache.maximum c.eldest_goes_first.ensures.within within.0 within.1)
