use Rattle.active_resources.proofs.actives.tests.Guarded.new.Goals as goal

pub invariant_of-result : goal.invariant_of-result
invariant_of-result c = c.in_ok-new.ensures.fits c.args.keys
