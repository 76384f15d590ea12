use Rattle.script_walk.proofs.CachedBegins.{none_cached}
use Rattle.script_walk.proofs.laws.begins_are_cached_by_loads.Goals as goal

pub returns : goal.returns
returns c = none_cached
