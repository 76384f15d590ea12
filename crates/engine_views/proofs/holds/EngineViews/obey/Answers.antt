use Rattle.std.proofs.Common.{◌≡◌, ℕ, Bool, true, false, Some, None, refl, ap, sym, subst, ◌∙◌, rules}
use Rattle.std.specs.Prelude.{slice_get, IsSome}
use Rattle.engine_views.specs.Following.{Standing, standing}
use Rattle.engine_views.specs.inside.Orders.{Begins, Drops}
use Rattle.engine_views.proofs.Staying.{get_set}
use Rattle.engine_views.proofs.holds.EngineViews.obey.Goals as goal

-- nothing is held once it is dropped
freed : (b : Bool) (place : ℕ) (old new : Standing) → Drops b place old new → (b ≡ false → slice_get old.held.holds place ≡ Some None) → slice_get new.held.holds place ≡ Some None
freed true place old new lets free = ap (λ hs. slice_get hs place) lets.holds_are ∙ get_set old.held.holds place lets.hold None lets.was
freed false place old new same free = ap (λ (at : Standing). slice_get at.held.holds place) same ∙ free refl

pub returns-in_default-clause-obeys : goal.returns-in_default-clause-obeys
returns-in_default-clause-obeys g c =
    let now = standing (g.E.EngineCalls.caller c.drop_hold.new.engine) c.drop_hold.new.self in
    record { between = now; drops = c.drop_hold.ensures.drops; begins = subst (λ o. Begins c.args.turned.order.place o now now) (sym c.in_default.is) refl }

pub begin-requires-clause-free : goal.begin-requires-clause-free
begin-requires-clause-free g c =
    let caller = g.E.EngineCalls.caller in
    let asks : IsSome c.args.turned.spec = subst IsSome (sym c.in-Some.is) (search rules) in
    freed c.args.turned.order.drop_hold c.args.turned.order.place (standing (caller c.args.engine.now) c.args.self.now) (standing (caller c.drop_hold.new.engine) c.drop_hold.new.self) c.drop_hold.ensures.drops (c.requires.free asks)

pub returns-clause-obeys : goal.returns-clause-obeys
returns-clause-obeys g c =
    let caller = g.E.EngineCalls.caller in
    let between = standing (caller c.drop_hold.new.engine) c.drop_hold.new.self in
    let new = standing (caller c.begin.new.engine) c.begin.new.self in
    record { between = between; drops = c.drop_hold.ensures.drops; begins = subst (λ o. Begins c.args.turned.order.place o between new) (sym c.in-Some.is) c.begin.ensures.begins }
