use Rattle.std.proofs.Common.{◌≡◌, ◌<◌, length, slice_get, Some, refl, sym, ap, subst, ◌∙◌, arith}
use Rattle.std.proofs.lemmas.Option.{slice_get_read}
use Rattle.request_tracker.specs.declared.views.ViewState.TheVariants.{Running}
use Rattle.request_tracker.specs.Moves.{state_at}
use Rattle.engine_shared.specs.Answers.{collected}
use Rattle.engine_views.specs.Held.{Held, loads_in}
use Rattle.engine_views.specs.Owner.{HasJust}
use Rattle.engine_views.specs.Following.{standing}
use Rattle.engine_views.specs.inside.Collects.{Collects}
use Rattle.engine_views.proofs.Holding.{has_at, just_collected}
use Rattle.engine_views.proofs.Gathering.{collects_ready, collects_failed, collects_none}
use Rattle.engine_views.proofs.holds.EngineViews.collect.Goals as goal

pub collect-requires : goal.collect-requires
collect-requires g c =
    let holds = c.self.inside.holds.items in
    let less : c.args.place < length holds = omega (arith, c.requires.place, ap (λ (h : Held). length h.holds) c.self.view_is) in
    let at : slice_get holds c.args.place ≡ Some (Some c.in-Some.load) = slice_get_read holds (length holds) c.args.place c.index.result.now refl less c.index.ensures ∙ ap Some c.in-Some.is in
    let now = sym (ap (λ (h : Held). slice_get h.holds c.args.place) c.self.view_is) ∙ at in
    record { load = has_at (g.E.EngineCalls.caller c.args.engine.now) c.args.self.now.holds c.args.place c.in-Some.load c.requires.just.each now }

pub let_go-requires-clause-just : goal.let_go-requires-clause-just
let_go-requires-clause-just g c =
    let old = g.E.EngineCalls.caller c.args.engine.now in
    let between = g.E.EngineCalls.caller c.collect.new.self in
    let loads = loads_in c.args.self.now.holds in
    let just = just_collected c.calls_tell_what_they_add.ensures.stay c.calls_leave_the_rest.ensures.stay c.each_event_keeps_opening.ensures old between c.in-Some.load.number (collected c.collect.result) loads c.requires.just c.collect.ensures.entry in
    subst (λ (h : Held). HasJust between (loads_in h.holds)) (sym c.self.view_is) just

pub returns-in-Ready-clause-collects : goal.returns-in-Ready-clause-collects
returns-in-Ready-clause-collects g c =
    let holds = c.self.inside.holds.items in
    let old = g.E.EngineCalls.caller c.args.engine.now in
    let between = g.E.EngineCalls.caller c.collect.new.self in
    let less : c.args.place < length holds = omega (arith, c.requires.place, ap (λ (h : Held). length h.holds) c.self.view_is) in
    let at : slice_get holds c.args.place ≡ Some (Some c.in-Some.load) = slice_get_read holds (length holds) c.args.place c.index.result.now refl less c.index.ensures ∙ ap Some c.in-Some.is in
    let state : state_at c.args.place c.self.inside.tracker.views ≡ Some Running = sym c.state.ensures ∙ ap Some c.in-Running.is in
    let opened : Held = record { tracked = c.self.inside.tracker; holds = holds } in
    let after : Held = record { tracked = c.collected.new.self; holds = holds } in
    let all : Collects c.args.place (standing old opened) (standing between after) =
    collects_ready c.args.place old between opened after c.in-Some.load state at c.in-Ready.ensures.entry (c.in-Ready.ensures.ready refl) c.collected.ensures.views refl in
    subst (λ (h : Held). Collects c.args.place (standing old h) (standing between after)) c.self.view_is all

pub returns-in-Ready-clause-just : goal.returns-in-Ready-clause-just
returns-in-Ready-clause-just g c =
    let old = g.E.EngineCalls.caller c.args.engine.now in
    let between = g.E.EngineCalls.caller c.collect.new.self in
    let loads = loads_in c.args.self.now.holds in
    let just = just_collected c.calls_tell_what_they_add.ensures.stay c.calls_leave_the_rest.ensures.stay c.each_event_keeps_opening.ensures old between c.in-Some.load.number (collected c.collect.result) loads c.requires.just c.collect.ensures.entry in
    subst (λ (h : Held). HasJust between (loads_in h.holds)) (sym c.self.view_is) just

pub returns-in-Failed-clause-collects : goal.returns-in-Failed-clause-collects
returns-in-Failed-clause-collects g c =
    let holds = c.self.inside.holds.items in
    let old = g.E.EngineCalls.caller c.args.engine.now in
    let between = g.E.EngineCalls.caller c.collect.new.self in
    let new = standing (g.E.EngineCalls.caller c.let_go.new.engine) c.let_go.new.self in
    let less : c.args.place < length holds = omega (arith, c.requires.place, ap (λ (h : Held). length h.holds) c.self.view_is) in
    let at : slice_get holds c.args.place ≡ Some (Some c.in-Some.load) = slice_get_read holds (length holds) c.args.place c.index.result.now refl less c.index.ensures ∙ ap Some c.in-Some.is in
    let state : state_at c.args.place c.self.inside.tracker.views ≡ Some Running = sym c.state.ensures ∙ ap Some c.in-Running.is in
    let opened : Held = record { tracked = c.self.inside.tracker; holds = holds } in
    let middle : Held = record { tracked = c.collected-in-Failed.new.self; holds = holds } in
    let all : Collects c.args.place (standing old opened) new =
    collects_failed c.args.place old between opened middle new c.in-Some.load c.in-Failed.cause state at c.in-Failed.ensures.entry c.collected-in-Failed.ensures.views refl c.let_go.ensures.lets_go c.let_go.ensures.tracked in
    subst (λ (h : Held). Collects c.args.place (standing old h) new) c.self.view_is all

pub returns-in-NotYet-clause-collects : goal.returns-in-NotYet-clause-collects
returns-in-NotYet-clause-collects g c =
    let holds = c.self.inside.holds.items in
    let old = g.E.EngineCalls.caller c.args.engine.now in
    let between = g.E.EngineCalls.caller c.collect.new.self in
    let less : c.args.place < length holds = omega (arith, c.requires.place, ap (λ (h : Held). length h.holds) c.self.view_is) in
    let at : slice_get holds c.args.place ≡ Some (Some c.in-Some.load) = slice_get_read holds (length holds) c.args.place c.index.result.now refl less c.index.ensures ∙ ap Some c.in-Some.is in
    let state : state_at c.args.place c.self.inside.tracker.views ≡ Some Running = sym c.state.ensures ∙ ap Some c.in-Running.is in
    let opened : Held = record { tracked = c.self.inside.tracker; holds = holds } in
    let all : Collects c.args.place (standing old opened) (standing between opened) = collects_none c.args.place old between opened c.in-Some.load c.in-NotYet.field-0 state at c.in-NotYet.ensures.entry in
    subst (λ (h : Held). Collects c.args.place (standing old h) (standing between h)) c.self.view_is all

pub returns-in-NotYet-clause-just : goal.returns-in-NotYet-clause-just
returns-in-NotYet-clause-just g c =
    just_collected c.calls_tell_what_they_add.ensures.stay c.calls_leave_the_rest.ensures.stay c.each_event_keeps_opening.ensures (g.E.EngineCalls.caller c.args.engine.now) (g.E.EngineCalls.caller c.collect.new.self)
    c.in-Some.load.number (collected c.collect.result) (loads_in c.args.self.now.holds) c.requires.just c.collect.ensures.entry
