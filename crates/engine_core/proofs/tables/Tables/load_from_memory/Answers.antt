use Rattle.std.proofs.Common.{◌≡◌, ap, sym, ◌∙◌}
use Rattle.engine_world.specs.Moves.{key_is, active_of}
use Rattle.engine_core.proofs.tables.Tables.load_from_memory.Goals as goal

pub load_cached-requires-clause-cached : goal.load_cached-requires-clause-cached
load_cached-requires-clause-cached c =
    let w = c.args.self.now in
    ((c.lookups_find_the_only_one.ensures.cached w.limits.memory w.resources w.cached c.requires.order.sound.cached c.args.spec.key c.in-Some-cached_of.number).0
    (sym c.cached_of.ensures ∙ c.in-Some-cached_of.is)).0

pub load_cached-requires-clause-alone : goal.load_cached-requires-clause-alone
load_cached-requires-clause-alone c resource at =
    let w = c.args.self.now in
    let has = ((c.lookups_find_the_only_one.ensures.cached w.limits.memory w.resources w.cached c.requires.order.sound.cached c.args.spec.key c.in-Some-cached_of.number).0
    (sym c.cached_of.ensures ∙ c.in-Some-cached_of.is)).1 in
    let same : resource.key ≡ c.args.spec.key = (c.same_key_is_equality.ensures resource.key c.args.spec.key).0 (sym (ap (key_is c.args.spec.key) at) ∙ has) in
    ap (active_of w.resources w.active) same ∙ sym c.active_of.ensures ∙ c.in_default.is
