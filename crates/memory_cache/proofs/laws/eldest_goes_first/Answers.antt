use Rattle.memory_cache.proofs.Eldest.{eldest_goes, none_goes}
use Rattle.memory_cache.proofs.laws.eldest_goes_first.Goals as goal

pub returns-clause-over : goal.returns-clause-over
returns-clause-over g c size room items eldest over last = eldest_goes size room items eldest over last

pub returns-clause-within : goal.returns-clause-within
returns-clause-within g c size room items fits few = none_goes size room items fits few
