use Rattle.store_world.proofs.Within.{fetches_right}
use Rattle.store_world.proofs.laws.fetches_are_right.Goals as goal

pub returns : goal.returns
returns c = fetches_right
