use Rattle.std.proofs.Common.{sym, subst}
use Rattle.engine_runs.specs.Guarded.{IsGuarded}
use Rattle.engine_runs.proofs.Guarding.{guarded_stays}
use Rattle.engine_runs.proofs.guarded.Guarded.totals.Goals as goal

pub invariant_of-self : goal.invariant_of-self
invariant_of-self c =
    let hs = c.self.inside.holds.items in
    let waited = subst (λ k. IsGuarded k hs c.self.inside.pass) (sym c.wait_news.ensures.same) c.self.invariant in
    guarded_stays c.calls_tell_what_they_add.ensures.stay c.calls_leave_the_rest.ensures.others c.calls_leave_the_rest.ensures.stay c.wait_news.new.self c.totals.new.self _ _ hs c.self.inside.pass c.totals.ensures.entry waited tt (λ n none. none) tt
