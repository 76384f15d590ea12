use Rattle.std.proofs.Common.{◌≡◌, map, ap, sym, subst, ◌∙◌}
use Rattle.std.specs.FinMap.{get, remove, nat_cmp-IsAntisymmetric}
use Rattle.std.proofs.lemmas.Cmp.{nat_cmp_total}
use Rattle.finite_maps.specs.Maps.{map_values}
use Rattle.finite_maps.specs.MapLaws.{remove_found}
use Rattle.engine_resource.specs.Resource.{ResourceValue}
use Rattle.resource_table.specs.Resources.{ResourceTableValue}
use Rattle.bitmap_pool.specs.Pool.{put_into}
use Rattle.memory_cache.specs.Cache.{number_in}
use Rattle.engine_world.specs.World.{Resources, World}
use Rattle.engine_world.specs.Places.{occurrences}
use Rattle.engine_world.specs.Moves.{to_pool}
use Rattle.engine_core.specs.TablesView.{resource_in, SizesAre}
use Rattle.engine_core.proofs.MovedMaps.{moved_remove}
use Rattle.engine_core.proofs.Joins.{there, sizes_without, pooled_is}
use Rattle.engine_core.proofs.tables.Tables.to_pool.Goals as goal

pub remove-resource-requires : goal.remove-resource-requires
remove-resource-requires c = there c.self.inside c.args.self.now c.args.number c.self.view_is c.requires.there

pub invariant_of-self : goal.invariant_of-self
invariant_of-self c =
    let left = ap (λ (v : ResourceTableValue). v.resources) c.remove-resource.ensures.left in
    let seen : map_values resource_in c.remove-resource.new.self.resources ≡ remove (map_values resource_in c.self.inside.resources.resources) c.args.number =
    ap (map_values resource_in) left ∙ moved_remove nat_cmp_total nat_cmp-IsAntisymmetric resource_in c.self.inside.resources.resources c.args.number in
    let gone : occurrences c.args.number (map number_in c.self.inside.cache.items) ≡ 0 = ap (λ (v : World). occurrences c.args.number v.cached) c.self.view_is ∙ c.requires.uncached in
    record {
      jobs = c.self.invariant.jobs;
      out = c.self.invariant.out;
      counts = λ number resource at. c.self.invariant.counts number resource (remove_found nat_cmp_total nat_cmp-IsAntisymmetric c.self.inside.resources.resources c.args.number number resource (sym (ap (λ m. get m number) left) ∙ at)).1;
      sizes = subst (λ (m : Resources). SizesAre m c.self.inside.cache.items) (sym seen) (sizes_without (map_values resource_in c.self.inside.resources.resources) c.args.number c.self.inside.cache.items gone c.self.invariant.sizes);
      seats = c.self.invariant.seats;
      loads_room = c.self.invariant.loads_room;
      jobs_room = c.self.invariant.jobs_room;
      resources_room = ap (λ (v : ResourceTableValue). v.room) c.remove-resource.ensures.left ∙ c.self.invariant.resources_room;
      active_room = c.self.invariant.active_room;
    }

pub returns : goal.returns
returns c =
    let x : ResourceValue = c.remove-resource.result in
    pooled_is c.self.inside c.args.number x c.remove-resource.new.self c.put.new.self c.numbers_stand_for_bitmaps.ensures.puts c.remove-resource.ensures.resource c.remove-resource.ensures.number c.remove-resource.ensures.left
    (c.put.ensures ∙ ap (put_into c.self.inside.pool) c.into_bitmap.ensures)
    ∙ ap (to_pool c.args.number) c.self.view_is
