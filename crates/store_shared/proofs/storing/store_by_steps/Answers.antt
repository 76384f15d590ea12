use Rattle.std.proofs.Common.{ℕ, List, [], ◌∷◌, sym, subst, ◌∙◌}
use Rattle.cache_key.specs.KeyBytes.{key_bytes_of}
use Rattle.cache_key.specs.FileKey.{file_key}
use Rattle.store_world.specs.declared.events.StoreReply.TheVariants as replies
use Rattle.store_world.specs.Envelopes.{envelope}
use Rattle.store_shared.specs.Caller.{MadeSteps}
use Rattle.store_shared.specs.Answers.{wants, LockedSteps, Stores, CommitsEntry}
use Rattle.store_shared.proofs.Chained.{one_step, content_along, same_content}
use Rattle.store_shared.proofs.Writing.{without_key_bytes, refused, with_the_lock, stored_later}
use Rattle.store_shared.proofs.storing.store_by_steps.Goals as goal

pub returns-in_default-clause-steps : goal.returns-in_default-clause-steps
returns-in_default-clause-steps g c = without_key_bytes (key_bytes_of c.args.which c.args.room.now.key) c.args.payload.now (g.S.StoreSteps.caller c.args.steps.now)

pub returns-in-Err-clause-steps : goal.returns-in-Err-clause-steps
returns-in-Err-clause-steps g c =
    let old = g.S.StoreSteps.caller c.args.steps.now in let new = g.S.StoreSteps.caller c.want.new.steps in
    subst (λ (bytes : List ℕ). MadeSteps (Stores bytes c.args.payload.now c.in-Err.answer) old new) (c.deref.ensures.value ∙ c.in-Ok.ensures)
    (refused c.deref.result.now c.args.payload.now old new c.in-Err.answer c.in-Err.ensures)

pub returns-clause-steps : goal.returns-clause-steps
returns-clause-steps g c =
    let old = g.S.StoreSteps.caller c.args.steps.now in let wanting = g.S.StoreSteps.caller c.want.new.steps in let new = g.S.StoreSteps.caller c.with_lock.new.steps in
    let locked = subst (λ (bytes : List ℕ). MadeSteps (LockedSteps (envelope bytes c.args.payload.now) c.with_lock.result) wanting new) (c.deref-in-Ok-want.ensures.value ∙ sym c.deref.ensures.value) c.with_lock.ensures.steps in
    subst (λ (bytes : List ℕ). MadeSteps (Stores bytes c.args.payload.now c.with_lock.result) old new) (c.deref.ensures.value ∙ c.in-Ok.ensures)
    (with_the_lock c.deref.result.now c.args.payload.now old wanting new c.with_lock.result c.in-Ok-want.ensures locked)

pub returns-clause-stored : goal.returns-clause-stored
returns-clause-stored g c is =
    let old = g.S.StoreSteps.caller c.args.steps.now in let wanting = g.S.StoreSteps.caller c.want.new.steps in let new = g.S.StoreSteps.caller c.with_lock.new.steps in
    let note = wants c.deref.result.now c.args.payload.now replies.Done in
    let later = subst (λ (bytes : List ℕ). CommitsEntry (file_key bytes, envelope bytes c.args.payload.now) wanting new) (c.deref-in-Ok-want.ensures.value ∙ c.in-Ok.ensures) (c.with_lock.ensures.stored is) in
    stored_later old wanting new (note ∷ []) _ (one_step old wanting note c.in-Ok-want.ensures) later

pub returns-clause-content : goal.returns-clause-content
returns-clause-content g c =
    let old = g.S.StoreSteps.caller c.args.steps.now in let wanting = g.S.StoreSteps.caller c.want.new.steps in let new = g.S.StoreSteps.caller c.with_lock.new.steps in
    content_along wanting new c.with_lock.ensures.steps.0 c.with_lock.ensures.steps.2 ∙ same_content old wanting (wants c.deref.result.now c.args.payload.now replies.Done) c.in-Ok-want.ensures
