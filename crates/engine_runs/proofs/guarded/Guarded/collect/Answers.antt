use Rattle.engine_runs.proofs.Guarding.{guarded_stays}
use Rattle.engine_runs.proofs.guarded.Guarded.collect.Goals as goal

pub invariant_of-self : goal.invariant_of-self
invariant_of-self c =
    guarded_stays c.calls_tell_what_they_add.ensures.stay c.calls_leave_the_rest.ensures.others c.calls_leave_the_rest.ensures.stay c.self.inside.engine c.collect.new.self _ _ c.self.inside.holds.items c.self.inside.pass c.collect.ensures.entry c.self.invariant tt (λ n none. none) tt
