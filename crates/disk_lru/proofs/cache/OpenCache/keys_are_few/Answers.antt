use Rattle.std.proofs.Common.{◌≤◌, length, subst}
use Rattle.disk_table.specs.UseOrder.{IsOnce}
use Rattle.disk_lru.specs.State.{CacheState, entries}
use Rattle.disk_lru.proofs.cache.OpenCache.keys_are_few.Goals as goal

pub returns-clause-once : goal.returns-clause-once
returns-clause-once g c = subst (λ (s : CacheState). IsOnce (entries s)) c.self.view_is (c.calls_keep_others.ensures.once_kept c.self.inside.table c.keys-keys.ensures.once)

pub returns-clause-few : goal.returns-clause-few
returns-clause-few g c = subst (λ (s : CacheState). length (entries s) ≤ 16400) c.self.view_is (c.calls_keep_others.ensures.few_kept c.self.inside.table c.keys-keys.ensures.few)
