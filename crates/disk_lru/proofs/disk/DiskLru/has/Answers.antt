use Rattle.std.proofs.Common.{◌≡◌, false, subst, is_some, ◌∙◌}
use Rattle.cache_folder.specs.Steps.{answer_at}
use Rattle.cache_folder.specs.Images.{IfKnown}
use Rattle.disk_lru.specs.State.{list_of, AnswersFor}
use Rattle.disk_lru.specs.Past.{DiskState, opening, after_calls}
use Rattle.disk_lru.proofs.Promises.{answers_after}
use Rattle.disk_lru.proofs.disk.DiskLru.has.Goals as goal

pub returns-clause-list : goal.returns-clause-list
returns-clause-list g c = subst (λ (d : DiskState). IfKnown d.cache.history (λ k. AnswersFor c.args.key.now k.held d.cache → c.has.result ≡ is_some (answer_at c.args.key.now (list_of k.held d.cache)))) c.self.view_is c.has.ensures.list

pub returns-clause-calls : goal.returns-clause-calls
returns-clause-calls g c = subst (λ (d : DiskState). d.past.failed ≡ false → IfKnown d.past.entry (λ h. c.has.result ≡ is_some (answer_at c.args.key.now (after_calls (opening h) d.past.calls)))) c.self.view_is
    (λ none h e. c.has.ensures.offered ∙ answers_after c.calls_keep_others.ensures (record { cache = c.self.inside.cache; past = c.self.inside.past.value }) c.args.key.now c.self.invariant none h e)
