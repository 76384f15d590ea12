use Rattle.std.proofs.Common.{refl, ap, sym, subst, ◌∙◌, arith}
use Rattle.std.specs.Prelude.{is_some}
use Rattle.std.proofs.lemmas.List.{length-map}
use Rattle.finite_maps.specs.Maps.{map_values}
use Rattle.bitmap_kind.specs.Picture.{BitmapValue}
use Rattle.memory_cache.specs.Cache.{CacheValue, number_in}
use Rattle.engine_world.specs.World.{World}
use Rattle.engine_world.specs.Places.{occurrences}
use Rattle.engine_core.specs.declared.tables.Tables.TheInside.{Inside}
use Rattle.engine_core.specs.Releasing.{IsWithin}
use Rattle.engine_core.specs.TablesView.{resource_in, world_of, SizesAre}
use Rattle.engine_core.proofs.Joins.{there}
use Rattle.engine_core.proofs.Shrinking.{recached}
use Rattle.engine_core.proofs.Caching.{has_none, not_over, size_at}
use Rattle.engine_core.proofs.tables.Tables.cache_first.Goals as goal

pub get-requires : goal.get-requires
get-requires c = there c.self.inside c.args.self.now c.args.number c.self.view_is (ap is_some c.requires.idle.there)

pub put-requires-clause-small : goal.put-requires-clause-small
put-requires-clause-small c =
    let size = size_at c.self.inside c.args.self.now c.args.number c.get.result.now c.self.view_is c.get.ensures.resource in
    let told = c.allocation-size.ensures.value ∙ ap (λ (b : BitmapValue). b.allocation) c.bitmap.ensures in
    let rooms = ap (λ (w : World). w.limits.memory) c.self.view_is in
    omega (arith, size, told, rooms, c.requires.small)

pub put-requires-clause-absent : goal.put-requires-clause-absent
put-requires-clause-absent c = has_none c.args.number c.self.inside.cache.items (ap (λ (w : World). occurrences c.args.number w.cached) c.self.view_is ∙ c.requires.idle.uncached)

pub put-requires-clause-within : goal.put-requires-clause-within
put-requires-clause-within c =
    let s : Inside = c.self.inside in
    let within : IsWithin (world_of s) = subst IsWithin (sym c.self.view_is) c.requires.idle.within in
    let long = length-map s.cache.items number_in in
    not_over (map_values resource_in s.resources.resources) s.cache.maximum s.cache.items c.self.invariant.sizes within.size (omega (arith, within.few, long))

pub invariant_of-self : goal.invariant_of-self
invariant_of-self c =
    let s : Inside = c.self.inside in
    let size = size_at s (world_of s) c.args.number c.get.result.now refl c.get.ensures.resource in
    let told = c.allocation-size.ensures.value ∙ ap (λ (b : BitmapValue). b.allocation) c.bitmap.ensures in
    recached s c.put.new.self
    (subst (λ (v : CacheValue). SizesAre (map_values resource_in s.resources.resources) v.items) (sym c.put.ensures) (told ∙ sym size, c.self.invariant.sizes)) c.self.invariant
