use Rattle.std.proofs.Common.{Some, Option, ap, sym, subst, ◌∙◌}
use Rattle.std.specs.Prelude.{is_some}
use Rattle.cache_key.specs.Key.{Key}
use Rattle.finite_maps.specs.Maps.{map_values}
use Rattle.memory_cache.specs.Cache.{CacheValue}
use Rattle.active_resources.specs.Actives.{ActiveValue, TellsIt}
use Rattle.resource_table.specs.Resources.{keys_of}
use Rattle.engine_world.specs.World.{World}
use Rattle.engine_world.specs.Sound.{ActiveAre}
use Rattle.engine_core.specs.Loading.{revived}
use Rattle.engine_core.specs.TablesView.{resource_in, SizesAre}
use Rattle.engine_core.proofs.Finding.{reviving, fits_active, sizes_left, revived_is}
use Rattle.engine_core.proofs.tables.Tables.revive.Goals as goal

pub activate-requires-clause-fits : goal.activate-requires-clause-fits
activate-requires-clause-fits c = fits_active c.self.inside.resources.resources c.self.inside.loads.loads c.self.inside.active.numbers
    (subst (λ (w : World). ActiveAre w.loads w.resources w.active) (sym c.self.view_is) c.requires.order.sound.active)

pub activate-requires-clause-known : goal.activate-requires-clause-known
activate-requires-clause-known c = ap is_some (reviving c.self.inside c.args.self.now c.args.number c.self.view_is c.requires.order c.requires.cached c.requires.alone).key_is

pub invariant_of-self : goal.invariant_of-self
invariant_of-self c = record {
  jobs = c.self.invariant.jobs;
  out = c.self.invariant.out;
  counts = c.self.invariant.counts;
  sizes = subst (λ (v : CacheValue). SizesAre (map_values resource_in c.self.inside.resources.resources) v.items) (sym c.remove.ensures.left)
      (sizes_left (map_values resource_in c.self.inside.resources.resources) c.args.number c.self.inside.cache.items c.self.invariant.sizes);
  seats = c.self.invariant.seats;
  loads_room = c.self.invariant.loads_room;
  jobs_room = c.self.invariant.jobs_room;
  resources_room = c.self.invariant.resources_room;
  active_room = ap (λ (v : ActiveValue). v.room) c.activate.ensures.active ∙ c.self.invariant.active_room;
}

pub returns : goal.returns
returns c =
    let x = reviving c.self.inside c.args.self.now c.args.number c.self.view_is c.requires.order c.requires.cached c.requires.alone in
    let tells : TellsIt (keys_of c.self.inside.resources.resources) (Some x.key) c.self.inside.active.numbers c.activate.result =
    subst (λ (k : Option Key). TellsIt (keys_of c.self.inside.resources.resources) k c.self.inside.active.numbers c.activate.result) x.key_is c.activate.ensures.it in
    revived_is c.self.inside c.args.number c.activate.new.self c.remove.new.self c.activate.result
    (x.none c.same_key_is_equality.ensures c.lookups_find_the_only_one.ensures.active c.activate.result tells) c.activate.ensures.active c.remove.ensures.left
    ∙ ap (revived c.args.number) c.self.view_is
