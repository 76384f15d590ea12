use Rattle.std.proofs.Common.{◌≡◌, ◌++◌, ◌∷◌, [], Some, ap, sym, subst, ◌∙◌}
use Rattle.engine_runs.specs.Guarded.{IsGuarded}
use Rattle.engine_runs.proofs.Guarding.{refused, loaded}
use Rattle.engine_runs.proofs.guarded.Guarded.load.Goals as goal

pub invariant_of-self : goal.invariant_of-self
invariant_of-self g c =
    subst (λ hs. IsGuarded c.load.new.self hs c.self.inside.pass) (sym c.reserve.ensures.items)
    (refused c.calls_tell_what_they_add.ensures.stay c.self.inside.engine c.load.new.self c.args.spec c.self.inside.holds.items c.self.inside.pass _ c.in_err-hold.ensures.entry c.self.invariant)

pub invariant_of-self-2 : goal.invariant_of-self-2
invariant_of-self-2 g c =
    let e = c.in_ok-hold.ensures.entry in
    let hold = c.in_ok-hold.hold in
    let items : c.push_hold.new.holds.items ≡ c.self.inside.holds.items ++ Some hold ∷ [] = c.push_hold.ensures ∙ ap (λ hs. hs ++ Some hold ∷ []) c.reserve.ensures.items in
    subst (λ hs. IsGuarded c.load.new.self hs c.self.inside.pass) (sym items)
    (loaded c.calls_tell_what_they_add.ensures.stay c.calls_leave_the_rest.ensures.counts c.calls_leave_the_rest.ensures.stay c.self.inside.engine c.load.new.self c.args.spec e.0 c.self.inside.holds.items c.self.inside.pass hold e.2 c.in_ok-hold.ensures.load c.in_ok-hold.ensures.number c.self.invariant)
