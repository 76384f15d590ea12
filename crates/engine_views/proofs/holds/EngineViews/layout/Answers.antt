use Rattle.std.proofs.Common.{refl, ap, sym, ◌∙◌}
use Rattle.load_cause.specs.declared.causes.Cause.{Cause}
use Rattle.request_tracker.specs.Moves.{order_by_name, moved_by_name, layout_move}
use Rattle.script_lines.specs.declared.commands.Command.TheVariants as commands
use Rattle.engine_views.specs.Held.{Held}
use Rattle.engine_views.specs.Following.{standing}
use Rattle.engine_views.proofs.Turning.{free_for}
use Rattle.engine_views.proofs.Moving.{IsOrdered, named_ordered, named_moves}
use Rattle.engine_views.proofs.holds.EngineViews.layout.Goals as goal

pub obey-requires-clause-free : goal.obey-requires-clause-free
obey-requires-clause-free g c =
    let outcome = c.requires.on_walk.0 in
    let s = c.requires.on_walk.1 in
    let follows = c.requires.on_walk.2 in
    let caller = g.E.EngineCalls.caller in
    let name = c.args.view.now in
    let move = layout_move {C = Cause} c.args.width c.args.height in
    let turned = c.in_ok-turned-in-Some.turned in
    let mid : Held = record { tracked = c.layout.new.self; holds = c.self.inside.holds.items } in
    let is : IsOrdered name move outcome s turned (caller c.args.engine.now) mid =
    named_ordered name move outcome s turned c.in-Some.order (caller c.args.engine.now) c.args.self.now mid follows (ap (λ (h : Held). h.holds) c.self.view_is)
    (c.in-Some.ensures.order ∙ ap (λ (h : Held). order_by_name name move h.tracked) c.self.view_is) (c.in-Some.ensures.views ∙ ap (λ (h : Held). moved_by_name name move h.tracked) c.self.view_is)
    c.in_ok-turned-in-Some.ensures.order c.in_ok-turned-in-Some.ensures.spec in
    free_for outcome s is.turn.place move is.turn.v turned (standing (caller c.args.engine.now) mid) (λ view. refl) is.stands is.turn.there is.turn.is

pub returns-in_ok-turned-in-Some-clause-moves : goal.returns-in_ok-turned-in-Some-clause-moves
returns-in_ok-turned-in-Some-clause-moves g c _ outcome s follows =
    let caller = g.E.EngineCalls.caller in
    let name = c.args.view.now in
    let move = layout_move {C = Cause} c.args.width c.args.height in
    let turned = c.in_ok-turned-in-Some.turned in
    let mid : Held = record { tracked = c.layout.new.self; holds = c.self.inside.holds.items } in
    let is : IsOrdered name move outcome s turned (caller c.args.engine.now) mid =
    named_ordered name move outcome s turned c.in-Some.order (caller c.args.engine.now) c.args.self.now mid follows (ap (λ (h : Held). h.holds) c.self.view_is)
    (c.in-Some.ensures.order ∙ ap (λ (h : Held). order_by_name name move h.tracked) c.self.view_is) (c.in-Some.ensures.views ∙ ap (λ (h : Held). moved_by_name name move h.tracked) c.self.view_is)
    c.in_ok-turned-in-Some.ensures.order c.in_ok-turned-in-Some.ensures.spec in
    let law = c.a_tracker_makes_the_moves.ensures outcome s follows.distinct in
    named_moves c.laws_of_moves.ensures c.moves_go_by_place.ensures c.a_tracker_makes_the_moves.ensures (commands.Layout name c.args.width c.args.height) outcome s s name move turned
    (standing (caller c.args.engine.now) c.args.self.now) (standing (caller c.args.engine.now) mid) (standing (caller c.obey.new.engine) c.obey.new.self)
    (λ view. refl) refl refl follows.distinct refl follows is.stands is.turn c.obey.ensures.obeys c.obey.ensures.just (c.obey.ensures.tracked ∙ is.moved_is ∙ sym (law.layout name c.args.width c.args.height))
