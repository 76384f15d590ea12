use Rattle.std.proofs.Common.{ℕ, ◌<◌, ◌^◌, List, length, Err, Result, Vec, Global, refl, sym, subst, ◌∙◌}
use Rattle.std.specs.declared.option.Option.{Option}
use Rattle.cache_key.specs.Key.{IsKey}
use Rattle.cache_key.specs.KeyBytes.{key_bytes_of}
use Rattle.cache_key.specs.declared.load_spec.LoadSpec.{LoadSpec}
use Rattle.disk_lru.specs.declared.refusals.DiskFault.{DiskFault}
use Rattle.store_world.specs.declared.events.StoreReply.TheVariants as replies
use Rattle.store_shared.specs.Caller.{MadeSteps}
use Rattle.store_shared.specs.Answers.{answer_of, IsRead, Fetches}
use Rattle.store_shared.proofs.Reading.{short_key_bytes, no_read, one_read, read_right}
use Rattle.store_shared.proofs.fetching.fetch_by_steps.Goals as goal

pub returns-in_default-clause-steps : goal.returns-in_default-clause-steps
returns-in_default-clause-steps g c = no_read (g.S.StoreSteps.caller c.args.steps.now) (key_bytes_of c.args.which c.args.room.now.key)

pub payload_in-requires : goal.payload_in-requires
payload_in-requires g c =
    let key_is = subst (λ (spec : LoadSpec). IsKey spec.key) c.spec.ensures c.limits.ensures in
    subst (λ (bytes : List ℕ). length bytes < 2 ^ 32) (sym (c.deref-in-Ok-read.ensures.value ∙ c.in-Ok.ensures)) (short_key_bytes c.args.which c.args.room.now.key key_is)

pub returns-in-Ok-read-clause-steps : goal.returns-in-Ok-read-clause-steps
returns-in-Ok-read-clause-steps g c =
    let old = g.S.StoreSteps.caller c.args.steps.now in let new = g.S.StoreSteps.caller c.read.new.steps in
    let answer : Result (Option (List ℕ)) DiskFault = answer_of (λ (bytes : Vec ℕ Global). bytes.items) c.payload_in.result in
    let is = subst (λ (bytes : List ℕ). IsRead bytes answer (replies.Bytes c.in-Ok-read.found)) (c.deref-in-Ok-read.ensures.value ∙ sym c.deref.ensures.value) c.payload_in.ensures in
    subst (λ (bytes : List ℕ). MadeSteps (Fetches bytes answer) old new) (c.deref.ensures.value ∙ c.in-Ok.ensures)
    (one_read old new c.deref.result.now answer (replies.Bytes c.in-Ok-read.found) c.in-Ok-read.ensures is)

pub returns-in-Ok-read-clause-right : goal.returns-in-Ok-read-clause-right
returns-in-Ok-read-clause-right g c =
    let old = g.S.StoreSteps.caller c.args.steps.now in let new = g.S.StoreSteps.caller c.read.new.steps in
    let answer : Result (Option (List ℕ)) DiskFault = answer_of (λ (bytes : Vec ℕ Global). bytes.items) c.payload_in.result in
    let is = subst (λ (bytes : List ℕ). IsRead bytes answer (replies.Bytes c.in-Ok-read.found)) (c.deref-in-Ok-read.ensures.value ∙ sym c.deref.ensures.value) c.payload_in.ensures in
    let key_is = subst (λ (spec : LoadSpec). IsKey spec.key) c.spec.ensures c.limits.ensures in
    read_right c.fetches_are_right.ensures c.envelopes_are_read_as_written.ensures.only c.entries_are_right.ensures.only old new c.args.which c.args.room.now.key c.deref.result.now c.in-Ok-read.found answer
    (c.deref.ensures.value ∙ c.in-Ok.ensures) key_is c.in-Ok-read.ensures is

pub returns-clause-steps : goal.returns-clause-steps
returns-clause-steps g c =
    let old = g.S.StoreSteps.caller c.args.steps.now in let new = g.S.StoreSteps.caller c.read.new.steps in
    subst (λ (bytes : List ℕ). MadeSteps (Fetches bytes (Err c.in-Err.fault)) old new) (c.deref.ensures.value ∙ c.in-Ok.ensures)
    (one_read old new c.deref.result.now (Err c.in-Err.fault) (replies.Fault c.in-Err.fault) c.in-Err.ensures refl)
