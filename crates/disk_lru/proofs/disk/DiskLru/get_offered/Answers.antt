use Rattle.std.proofs.Common.{false, true, refl, ap, is_some}
use Rattle.disk_lru.specs.Calls.{use_steps}
use Rattle.disk_lru.proofs.Promises.{promise_after, promise_same}
use Rattle.disk_lru.proofs.disk.DiskLru.get_offered.Goals as goal

pub invariant_of-self : goal.invariant_of-self
invariant_of-self g c = promise_same (record { cache = c.self.inside.cache; past = c.self.inside.past.value }) c.get.new.self c.self.invariant (c.in-Ok-None.ensures.none c.in-Ok-None.field-0-is)

pub invariant_of-self-in-Ok-Some : goal.invariant_of-self-in-Ok-Some
invariant_of-self-in-Ok-Some g c = promise_after (record { cache = c.self.inside.cache; past = c.self.inside.past.value }) c.of-before.result.value c.get.new.self c.note.new.past.value (λ s. use_steps c.args.key.now) false c.args.key.now c.self.invariant c.of-before.ensures c.note.ensures
    (λ no'. c.in-Ok-Some.ensures.makes (ap is_some c.in-Ok-Some.field-0-is)) (λ yes'. cc)

pub invariant_of-self-in-Err : goal.invariant_of-self-in-Err
invariant_of-self-in-Err g c = promise_after (record { cache = c.self.inside.cache; past = c.self.inside.past.value }) c.of-before.result.value c.get.new.self c.note-in-Err.new.past.value (λ s. use_steps c.args.key.now) true c.args.key.now c.self.invariant c.of-before.ensures c.note-in-Err.ensures
    (λ no'. cc) (λ yes'. (c.in-Err.ensures.fails refl).call.passage)
