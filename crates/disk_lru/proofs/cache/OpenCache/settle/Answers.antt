use Rattle.std.proofs.Common.{sym, ◌∙◌}
use Rattle.disk_lru.proofs.Fields.{rebuilds_none}
use Rattle.disk_lru.proofs.Lines.{settled_already}
use Rattle.disk_lru.proofs.cache.OpenCache.settle.Goals as goal

pub returns-else-due-clause-rebuilds : goal.returns-else-due-clause-rebuilds
returns-else-due-clause-rebuilds g c = rebuilds_none c.args.self.now

pub returns-else-due-clause-settled : goal.returns-else-due-clause-settled
returns-else-due-clause-settled g c = settled_already _ _ c.self.view_is c.self.invariant (sym c.if-due.false ∙ c.due.ensures)
