use Rattle.engine_shared.proofs.Owning.{opened_legal}
use Rattle.engine_shared.proofs.alone.Alone.new.Goals as goal

pub invariant_of-result : goal.invariant_of-result
invariant_of-result c = opened_legal c.args.core c.requires.fresh c.requires.opened c.is_in_order.ensures.served.some
