use Rattle.std.proofs.Common.{◌≡◌, ◌++◌, ◌∷◌, [], reverse, sym, ap, subst, ◌∙◌}
use Rattle.std.specs.Option.{option_to_list}
use Rattle.engine_views.specs.Held.{Held, loads_in}
use Rattle.engine_views.specs.inside.Releasing.{AreReleasedTo}
use Rattle.engine_views.proofs.Closings.{none_released, hold_released, last_first, twice_reversed}
use Rattle.engine_views.proofs.holds.EngineViews.close.Goals as goal

pub holds-init : goal.holds-init
holds-init g c =
    let items = c.self.inside.holds.items in
    let same : reverse c.reverse.new.self.items ≡ c.args.self.holds = ap reverse c.reverse.ensures.items ∙ twice_reversed items ∙ ap (λ (h : Held). h.holds) c.self.view_is in
    none_released (loads_in c.args.self.holds) (loads_in (reverse c.reverse.new.self.items)) (g.E.EngineCalls.caller c.args.engine.now) (ap loads_in (sym same)) c.requires

pub holds-preserved : goal.holds-preserved
holds-preserved g c =
    let old = g.E.EngineCalls.caller c.args.engine.now in
    let between = g.E.EngineCalls.caller c.holds.engine in
    let new = g.E.EngineCalls.caller c.release_hold.new.engine in
    let all = loads_in c.args.self.holds in
    let hold = c.in-Some.hold in
    let rest = c.pop.new.self.items in
    let items : c.holds.holds.items ≡ rest ++ hold ∷ [] = c.pop.ensures.items ∙ ap (λ o. rest ++ option_to_list o) c.in-Some.is in
    let was = subst (λ l. AreReleasedTo all l old between) (last_first c.holds.holds.items rest hold items) c.holds.invariant in
    hold_released c.calls_tell_what_they_add.ensures.stay c.calls_leave_the_rest.ensures.stay c.each_event_keeps_opening.ensures c.failures_add_up.ensures.runs c.failures_add_up.ensures.entry all (loads_in (reverse rest)) hold old between new was c.release_hold.ensures
