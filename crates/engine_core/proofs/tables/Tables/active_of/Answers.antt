use Rattle.std.proofs.Common.{ap, sym, subst, ◌∙◌}
use Rattle.engine_world.specs.World.{World}
use Rattle.engine_world.specs.Moves.{active_of}
use Rattle.engine_world.specs.Sound.{ActiveAre}
use Rattle.engine_core.proofs.Finding.{fits_active, active_is}
use Rattle.engine_core.proofs.tables.Tables.active_of.Goals as goal

pub find-requires : goal.find-requires
find-requires c = record {
  fits = fits_active c.self.inside.resources.resources c.self.inside.loads.loads c.self.inside.active.numbers
      (subst (λ (w : World). ActiveAre w.loads w.resources w.active) (sym c.self.view_is) c.requires.sound.active);
}

pub returns : goal.returns
returns c =
    active_is c.self.inside.resources.resources c.same_key_is_equality.ensures c.args.key.now c.self.inside.loads.loads c.self.inside.active.numbers c.find.result c.lookups_find_the_only_one.ensures.active
    (subst (λ (w : World). ActiveAre w.loads w.resources w.active) (sym c.self.view_is) c.requires.sound.active) c.find.ensures.it
    ∙ ap (λ (w : World). active_of w.resources w.active c.args.key.now) c.self.view_is
