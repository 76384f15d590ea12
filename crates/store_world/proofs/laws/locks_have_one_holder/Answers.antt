use Rattle.store_world.proofs.Begins.{one_holder}
use Rattle.store_world.proofs.laws.locks_have_one_holder.Goals as goal

pub returns : goal.returns
returns c = one_holder
