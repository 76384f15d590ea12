use Rattle.store_world.proofs.Settings.{one_more_eviction}
use Rattle.store_world.proofs.laws.evictions_go_on.Goals as goal

pub returns : goal.returns
returns c = one_more_eviction
