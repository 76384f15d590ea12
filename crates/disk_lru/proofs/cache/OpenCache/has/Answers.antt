use Rattle.std.proofs.Common.{ap, ◌∙◌}
use Rattle.cache_folder.specs.Tables.{is_offered}
use Rattle.disk_lru.specs.State.{CacheState, entries}
use Rattle.disk_lru.proofs.cache.OpenCache.has.Goals as goal

pub returns-clause-list : goal.returns-clause-list
returns-clause-list g c = λ k e same. c.has.ensures ∙ ap (λ (s : CacheState). is_offered c.args.key.now (entries s)) c.self.view_is
    ∙ c.calls_keep_others.ensures.answers_offered c.args.key.now k.held (entries c.args.self.now) same
