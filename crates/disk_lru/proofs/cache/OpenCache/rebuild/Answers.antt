use Rattle.disk_lru.proofs.Composed.{call_rebuild, answers_rebuilt}
use Rattle.disk_lru.proofs.cache.OpenCache.rebuild.Goals as goal

pub returns-clause-call : goal.returns-clause-call
returns-clause-call g c = λ key. call_rebuild c.calls_keep_others.ensures key c.args.self.now c.new_journal.new.self c.new_journal.ensures.rebuilds

pub returns-clause-makes : goal.returns-clause-makes
returns-clause-makes g c = λ ok key. record {
  call = call_rebuild c.calls_keep_others.ensures key c.args.self.now c.new_journal.new.self c.new_journal.ensures.rebuilds;
  answers = λ any. answers_rebuilt c.calls_keep_others.ensures any c.args.self.now c.new_journal.new.self c.new_journal.ensures.rebuilds;
  offers_now = c.new_journal.ensures.offers_now ok;
  settled = c.new_journal.ensures.settled ok;
}

pub returns-clause-answers : goal.returns-clause-answers
returns-clause-answers g c = λ any. answers_rebuilt c.calls_keep_others.ensures any c.args.self.now c.new_journal.new.self c.new_journal.ensures.rebuilds
