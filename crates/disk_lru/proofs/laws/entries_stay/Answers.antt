use Rattle.disk_lru.proofs.Stays.{entries_stay}
use Rattle.disk_lru.proofs.laws.entries_stay.Goals as goal

pub returns : goal.returns
returns c = entries_stay c.calls_keep_others.ensures
