use Rattle.std.proofs.Common.{sym, ◌∙◌}
use Rattle.disk_lru.specs.Calls.{begin_steps}
use Rattle.disk_lru.proofs.Results.{ok_of}
use Rattle.disk_lru.proofs.Promises.{promise_after}
use Rattle.disk_lru.proofs.disk.DiskLru.begin_edit.Goals as goal

pub invariant_of-self : goal.invariant_of-self
invariant_of-self g c = promise_after (record { cache = c.self.inside.cache; past = c.self.inside.past.value }) c.of-before.result.value c.begin-result.new.self c.note.new.past.value (λ s. begin_steps c.args.key.now) c.is_err.result c.args.key.now c.self.invariant c.of-before.ensures c.note.ensures
    (λ no'. c.begin-result.ensures.makes (ok_of c.begin-result.result (sym c.is_err.ensures.value ∙ no'))) (λ yes'. (c.begin-result.ensures.fails (sym c.is_err.ensures.value ∙ yes')).call.passage)

pub invariant_of-self-2 : goal.invariant_of-self-2
invariant_of-self-2 g c = promise_after (record { cache = c.self.inside.cache; past = c.self.inside.past.value }) c.of-before.result.value c.begin-result.new.self c.note.new.past.value (λ s. begin_steps c.args.key.now) c.is_err.result c.args.key.now c.self.invariant c.of-before.ensures c.note.ensures
    (λ no'. c.begin-result.ensures.makes (ok_of c.begin-result.result (sym c.is_err.ensures.value ∙ no'))) (λ yes'. (c.begin-result.ensures.fails (sym c.is_err.ensures.value ∙ yes')).call.passage)
