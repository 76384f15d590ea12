use Rattle.engine_world.proofs.Lookups.{finds_active, finds_cached}
use Rattle.engine_world.proofs.laws.lookups_find_the_only_one.Goals as goal

pub returns-clause-active : goal.returns-clause-active
returns-clause-active c = finds_active

pub returns-clause-cached : goal.returns-clause-cached
returns-clause-cached c = finds_cached
