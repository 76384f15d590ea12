use Rattle.std.proofs.Common.{sym, ap, subst, ◌∙◌}
use Rattle.disk_lru.specs.State.{CacheState}
use Rattle.disk_lru.specs.inside.Kept.{Keeps}
use Rattle.disk_lru.proofs.cache.OpenCache.read_value.Goals as goal

pub invariant_of-self : goal.invariant_of-self
invariant_of-self g c = subst (λ h. Keeps h c.self.inside.table c.self.inside.due) (sym c.read.ensures.same) c.self.invariant

pub returns-clause-same : goal.returns-clause-same
returns-clause-same g c = (λ i. record { history = c.read.ensures.same i; faults = g.F.Files.faults c.read.new.files; table = c.self.inside.table; maximum = c.self.inside.maximum; due = c.self.inside.due }) ∙ ap (λ (s : CacheState). record s { faults = g.F.Files.faults c.read.new.files }) c.self.view_is
