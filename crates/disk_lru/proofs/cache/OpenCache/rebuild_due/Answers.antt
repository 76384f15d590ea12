use Rattle.disk_lru.proofs.Fields.{rebuilds_none}
use Rattle.disk_lru.proofs.cache.OpenCache.rebuild_due.Goals as goal

pub returns-then-not-self-clause-rebuilds : goal.returns-then-not-self-clause-rebuilds
returns-then-not-self-clause-rebuilds g c = rebuilds_none c.args.self.now
