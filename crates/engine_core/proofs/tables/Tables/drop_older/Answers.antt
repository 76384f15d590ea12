use Rattle.std.proofs.Common.{◌≡◌, ℕ, ◌<◌, Some, ap, sym, subst, ◌∙◌}
use Rattle.engine_world.specs.World.{World}
use Rattle.engine_world.specs.Places.{occurrences}
use Rattle.engine_world.specs.Moves.{has_key, size_of, cached_of, cached_to_pool}
use Rattle.engine_core.specs.Releasing.{IsIdle}
use Rattle.engine_core.proofs.Caching.{find_stands, still_idle, still_sized, still_limited}
use Rattle.engine_core.proofs.tables.Tables.drop_older.Goals as goal

-- what is found is cached
stands : (w : World) (number older : ℕ) (idle : IsIdle w number) → Some older ≡ cached_of w.resources w.cached idle.resource.key → 0 < occurrences older w.cached
stands w number older idle is = find_stands (has_key w.resources idle.resource.key) w.cached older (sym is)

pub cached_to_pool-requires-clause-there : goal.cached_to_pool-requires-clause-there
cached_to_pool-requires-clause-there c = stands c.args.self.now c.args.number c.in-Some.older c.requires (c.in-Some.ensures c.requires.resource c.requires.there)

pub returns-in-Some-clause-step : goal.returns-in-Some-clause-step
returns-in-Some-clause-step c = λ resource at. c.cached_to_pool.ensures ∙ ap (λ o. cached_to_pool o c.args.self.now) (c.in-Some.ensures resource at)

pub returns-in-Some-clause-idle : goal.returns-in-Some-clause-idle
returns-in-Some-clause-idle c =
    subst (λ (w : World). IsIdle w c.args.number) (sym c.cached_to_pool.ensures)
    (still_idle c.args.self.now c.args.number c.in-Some.older c.requires (stands c.args.self.now c.args.number c.in-Some.older c.requires (c.in-Some.ensures c.requires.resource c.requires.there)))

pub returns-in-Some-clause-size : goal.returns-in-Some-clause-size
returns-in-Some-clause-size c =
    ap (λ (w : World). size_of w.resources c.args.number) c.cached_to_pool.ensures
    ∙ still_sized c.args.self.now c.args.number c.in-Some.older c.requires (stands c.args.self.now c.args.number c.in-Some.older c.requires (c.in-Some.ensures c.requires.resource c.requires.there))

pub returns-in-Some-clause-limits : goal.returns-in-Some-clause-limits
returns-in-Some-clause-limits c =
    ap (λ (w : World). w.limits) c.cached_to_pool.ensures
    ∙ still_limited c.args.self.now c.args.number c.in-Some.older c.requires (stands c.args.self.now c.args.number c.in-Some.older c.requires (c.in-Some.ensures c.requires.resource c.requires.there))

pub returns-in-None-clause-step : goal.returns-in-None-clause-step
returns-in-None-clause-step c = λ resource at. ap (λ o. cached_to_pool o c.args.self.now) (c.in-None.ensures resource at)
