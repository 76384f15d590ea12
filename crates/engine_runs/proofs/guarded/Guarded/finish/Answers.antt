use Rattle.engine_runs.proofs.Guarding.{loads_stay, is_free}
use Rattle.engine_runs.proofs.guarded.Guarded.finish.Goals as goal

pub invariant_of-self-2 : goal.invariant_of-self-2
invariant_of-self-2 g c =
    let stay = c.calls_tell_what_they_add.ensures.stay in
    let counts = c.calls_leave_the_rest.ensures.others in
    let hs = c.self.inside.holds.items in
    let first = loads_stay stay counts c.self.inside.engine c.take-taken.new.self _ _ hs c.take-taken.ensures.entry c.self.invariant.loads tt (λ n none. none) in
    is_free c.finish.new.self hs c.take.new.self c.take.ensures.after (c.calls_leave_the_rest.ensures.end c.take-taken.new.self c.finish.new.self _ _ tt c.finish.ensures.entry)
    (loads_stay stay counts c.take-taken.new.self c.finish.new.self _ _ hs c.finish.ensures.entry first tt (λ n none. none))
