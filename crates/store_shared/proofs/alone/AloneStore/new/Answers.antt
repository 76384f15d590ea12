use Rattle.store_shared.proofs.Owning.{opened_owned}
use Rattle.store_shared.proofs.alone.AloneStore.new.Goals as goal

pub invariant_of-result : goal.invariant_of-result
invariant_of-result g c = opened_owned c.empty_histories_are_legal.ensures c.args.store c.requires.fresh c.requires.opened c.is_in_order.ensures.sound c.is_in_order.ensures.settings
