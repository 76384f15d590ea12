use Rattle.std.proofs.Common.{◌≡◌, ◌≤◌, true, length, Result, Ok, Err, OnErr, refl, ap, sym, subst, ◌∙◌, arith}
use Rattle.std.proofs.lemmas.Grind.{common_steps}
use Rattle.std.specs.Option.{is_some}
use Rattle.load_cause.specs.declared.causes.Cause.{Cause}
use Rattle.request_tracker.specs.Limits.{views_limit}
use Rattle.request_tracker.specs.Moves.{Tracked, is_known, load_move, load_order, after_load}
use Rattle.script_lines.specs.declared.commands.Command.TheVariants as commands
use Rattle.script_walk.specs.Walk.{with_view}
use Rattle.engine_views.specs.Held.{Holds, Held, loads_in}
use Rattle.engine_views.specs.Owner.{HasJust}
use Rattle.engine_views.specs.Following.{standing}
use Rattle.engine_views.specs.inside.Orders.{with_hold}
use Rattle.engine_views.proofs.Turning.{free_for}
use Rattle.engine_views.proofs.Moving.{loads_with_hold, named_moves, loaded_count, loaded_within, IsLoadOrdered, load_ordered}
use Rattle.engine_views.proofs.holds.EngineViews.load.Goals as goal

on_err : {T E P : Type 0} (r : Result T E) → P → OnErr r P
on_err (Ok x) p = tt
on_err (Err e) p = p

pub invariant_of-self-2 : goal.invariant_of-self-2
invariant_of-self-2 g c =
    let name = c.args.view.now in
    let t = c.self.inside.tracker in
    let hs = c.self.inside.holds.items in
    let known : c.is_some-known.result ≡ is_known name t.views = c.is_some-known.ensures ∙ ap is_some c.find.ensures.place in
    let holds : c.hold_for.new.holds.items ≡ with_hold (is_known name t.views) hs = c.hold_for.ensures ∙ ap (with_hold c.is_some-known.result) c.make_room.ensures.same ∙ ap (λ b. with_hold b hs) known in
    let can : c.can_load.result ≡ true = grind (arith, common_steps) in (
      ap length holds ∙ loaded_count name c.args.ask t hs c.self.invariant.0 ∙ ap (λ (u : Tracked Cause). length u.views) (sym c.in_ok-order.ensures.views),
      subst (λ (l : Holds). length l ≤ views_limit) (sym holds) (loaded_within (is_known name t.views) (length t.views) hs (sym c.can_load.ensures ∙ can) c.self.invariant.0 c.self.invariant.1),
    )

pub returns-in_err-turned-clause-unmoved : goal.returns-in_err-turned-clause-unmoved
returns-in_err-turned-clause-unmoved g c = on_err c.from_residual-in_err-turned.result (record {
  caller = refl;
  loads = ap loads_in c.hold_for.ensures ∙ loads_with_hold c.is_some-known.result c.make_room.new.holds.items ∙ ap loads_in c.make_room.ensures.same ∙ ap (λ (h : Held). loads_in h.holds) c.self.view_is;
})

pub obey-requires-clause-just : goal.obey-requires-clause-just
obey-requires-clause-just g c =
    let caller = g.E.EngineCalls.caller in
    let same : loads_in c.hold_for.new.holds.items ≡ loads_in c.args.self.now.holds =
    ap loads_in c.hold_for.ensures ∙ loads_with_hold c.is_some-known.result c.make_room.new.holds.items ∙ ap loads_in c.make_room.ensures.same ∙ ap (λ (h : Held). loads_in h.holds) c.self.view_is in
    subst (HasJust (caller c.args.engine.now)) (sym same) c.requires.on_walk.2.just

pub obey-requires-clause-free : goal.obey-requires-clause-free
obey-requires-clause-free g c =
    let outcome = c.requires.on_walk.0 in
    let s = c.requires.on_walk.1 in
    let follows = c.requires.on_walk.2 in
    let caller = g.E.EngineCalls.caller in
    let name = c.args.view.now in
    let ask = c.args.ask in
    let turned = c.in_ok-turned.turned in
    let mid : Held = record { tracked = c.load.new.self; holds = c.hold_for.new.holds.items } in
    let known : c.is_some-known.result ≡ is_known name c.args.self.now.tracked.views = c.is_some-known.ensures ∙ ap is_some c.find.ensures.place ∙ ap (λ (h : Held). is_known name h.tracked.views) c.self.view_is in
    let holds : mid.holds ≡ with_hold c.is_some-known.result c.args.self.now.holds = c.hold_for.ensures ∙ ap (with_hold c.is_some-known.result) (c.make_room.ensures.same ∙ ap (λ (h : Held). h.holds) c.self.view_is) in
    let is : IsLoadOrdered name ask outcome s turned (caller c.args.engine.now) mid = load_ordered c.a_tracker_makes_the_moves.ensures name ask outcome s turned c.in_ok-order.order (caller c.args.engine.now) c.args.self.now mid c.is_some-known.result follows known holds
    (c.in_ok-order.ensures.order ∙ ap (λ (h : Held). load_order name ask h.tracked) c.self.view_is) (c.in_ok-order.ensures.views ∙ ap (λ (h : Held). after_load name ask h.tracked) c.self.view_is) c.in_ok-turned.ensures.order c.in_ok-turned.ensures.spec in
    free_for outcome (with_view name ask s) is.turn.place (load_move {C = Cause} s.paused ask) is.turn.v turned (standing (caller c.args.engine.now) mid) (λ view. refl) is.stands is.turn.there is.turn.is

pub returns-clause-moves : goal.returns-clause-moves
returns-clause-moves g c outcome s follows =
    let caller = g.E.EngineCalls.caller in
    let name = c.args.view.now in
    let ask = c.args.ask in
    let turned = c.in_ok-turned.turned in
    let mid : Held = record { tracked = c.load.new.self; holds = c.hold_for.new.holds.items } in
    let known : c.is_some-known.result ≡ is_known name c.args.self.now.tracked.views = c.is_some-known.ensures ∙ ap is_some c.find.ensures.place ∙ ap (λ (h : Held). is_known name h.tracked.views) c.self.view_is in
    let holds : mid.holds ≡ with_hold c.is_some-known.result c.args.self.now.holds = c.hold_for.ensures ∙ ap (with_hold c.is_some-known.result) (c.make_room.ensures.same ∙ ap (λ (h : Held). h.holds) c.self.view_is) in
    let is : IsLoadOrdered name ask outcome s turned (caller c.args.engine.now) mid = load_ordered c.a_tracker_makes_the_moves.ensures name ask outcome s turned c.in_ok-order.order (caller c.args.engine.now) c.args.self.now mid c.is_some-known.result follows known holds
    (c.in_ok-order.ensures.order ∙ ap (λ (h : Held). load_order name ask h.tracked) c.self.view_is) (c.in_ok-order.ensures.views ∙ ap (λ (h : Held). after_load name ask h.tracked) c.self.view_is) c.in_ok-turned.ensures.order c.in_ok-turned.ensures.spec in
    named_moves c.laws_of_moves.ensures c.moves_go_by_place.ensures c.a_tracker_makes_the_moves.ensures (commands.Load name ask.spec ask.sized) outcome s (with_view name ask s) name (load_move {C = Cause} s.paused ask) turned
    (standing (caller c.args.engine.now) c.args.self.now) (standing (caller c.args.engine.now) mid) (standing (caller c.obey.new.engine) c.obey.new.self)
    (λ view. refl) refl refl is.distinct refl follows is.stands is.turn c.obey.ensures.obeys c.obey.ensures.just (c.obey.ensures.tracked ∙ is.after_is)
