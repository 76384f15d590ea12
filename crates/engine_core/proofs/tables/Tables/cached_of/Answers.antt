use Rattle.std.proofs.Common.{sym, subst}
use Rattle.engine_world.specs.World.{World}
use Rattle.engine_world.specs.Sound.{CachedAre}
use Rattle.engine_core.specs.Loading.{AllThere}
use Rattle.engine_core.proofs.Finding.{cached_there}
use Rattle.engine_core.proofs.tables.Tables.cached_of.Goals as goal

pub first_with-requires : goal.first_with-requires
first_with-requires c = subst (AllThere c.self.inside.resources.resources) (sym c.items.ensures)
    (cached_there c.self.inside.resources.resources c.self.inside.cache.maximum c.self.inside.cache.items
    (subst (λ (w : World). CachedAre w.limits.memory w.resources w.cached) (sym c.self.view_is) c.requires.sound.cached))
