use Rattle.std.proofs.Common.{[], sym, ap, subst, ◌∙◌, is_ok}
use Rattle.disk_lru.specs.Calls.{no_steps, CallOn, StillAnswers, Makes}
use Rattle.disk_lru.specs.Past.{DiskState}
use Rattle.disk_lru.proofs.Results.{ok_of}
use Rattle.disk_lru.proofs.Promises.{promise_after}
use Rattle.disk_lru.proofs.disk.DiskLru.rebuild.Goals as goal

pub invariant_of-self : goal.invariant_of-self
invariant_of-self g c = promise_after (record { cache = c.self.inside.cache; past = c.self.inside.past.value }) c.of-before.result.value c.rebuild-result.new.self c.note.new.past.value (λ s. no_steps) c.is_err.result [] c.self.invariant c.of-before.ensures c.note.ensures
    (λ no'. c.rebuild-result.ensures.makes (ok_of c.rebuild-result.result (sym c.is_err.ensures.value ∙ no')) []) (λ yes'. (c.rebuild-result.ensures.call []).passage)

pub invariant_of-self-2 : goal.invariant_of-self-2
invariant_of-self-2 g c = promise_after (record { cache = c.self.inside.cache; past = c.self.inside.past.value }) c.of-before.result.value c.rebuild-result.new.self c.note.new.past.value (λ s. no_steps) c.is_err.result [] c.self.invariant c.of-before.ensures c.note.ensures
    (λ no'. c.rebuild-result.ensures.makes (ok_of c.rebuild-result.result (sym c.is_err.ensures.value ∙ no')) []) (λ yes'. (c.rebuild-result.ensures.call []).passage)

pub returns-in_err-result-clause-call : goal.returns-in_err-result-clause-call
returns-in_err-result-clause-call g c = λ key. subst (λ (s : DiskState). CallOn key no_steps no_steps s.cache c.rebuild-result.new.self) c.self.view_is (c.rebuild-result.ensures.call key)

pub returns-clause-call : goal.returns-clause-call
returns-clause-call g c = λ key. subst (λ (s : DiskState). CallOn key no_steps no_steps s.cache c.rebuild-result.new.self) c.self.view_is (c.rebuild-result.ensures.call key)

pub returns-clause-makes : goal.returns-clause-makes
returns-clause-makes g c = λ ok key. subst (λ (s : DiskState). Makes key no_steps s.cache c.rebuild-result.new.self) c.self.view_is (c.rebuild-result.ensures.makes (ap is_ok c.in_ok-result.was) key)

pub returns-in_err-result-clause-answers : goal.returns-in_err-result-clause-answers
returns-in_err-result-clause-answers g c = λ any. subst (λ (s : DiskState). StillAnswers any s.cache c.rebuild-result.new.self) c.self.view_is (c.rebuild-result.ensures.answers any)

pub returns-clause-answers : goal.returns-clause-answers
returns-clause-answers g c = λ any. subst (λ (s : DiskState). StillAnswers any s.cache c.rebuild-result.new.self) c.self.view_is (c.rebuild-result.ensures.answers any)
