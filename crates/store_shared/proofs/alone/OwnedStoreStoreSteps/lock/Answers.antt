use Rattle.std.proofs.Common.{◌≡◌, ap, sym, subst, ◌∙◌}
use Rattle.std.specs.Prelude.{Some}
use Rattle.std.specs.Option.{option_map}
use Rattle.store_world.specs.declared.events.StoreEvent.TheVariants as events
use Rattle.store_world.specs.declared.events.StoreReply.{StoreReply}
use Rattle.store_world.specs.World.{Request}
use Rattle.store_world.specs.Steps.{granted}
use Rattle.store_world.specs.Knowledge.{updated}
use Rattle.store_shared.specs.Caller.{Caller, knowledge_of, MadeSteps}
use Rattle.store_shared.specs.Answers.{Waits}
use Rattle.store_shared.specs.Owned.{owner_of}
use Rattle.store_shared.proofs.Owning.{lock_of_owner, waits_alone}
use Rattle.store_shared.proofs.alone.OwnedStoreStoreSteps.lock.Goals as goal

pub returns-clause-steps : goal.returns-clause-steps
returns-clause-steps g c =
    let old = c.self.inside.store in let new = c.make.new.store in
    let wants = subst (λ (o : Caller). (request : Request) × (knowledge_of o ≡ Some request)) (sym c.self.view_is) c.requires.wants in
    let first = lock_of_owner old new.world c.make.result c.self.invariant wants.0 wants.1 c.make.ensures.transition in
    subst (λ (o : Caller). MadeSteps Waits o (owner_of new)) c.self.view_is (waits_alone (owner_of old) (owner_of new) c.make.result first c.make.ensures.step)

pub returns-clause-has : goal.returns-clause-has
returns-clause-has g c =
    let old = c.self.inside.store in let new = c.make.new.store in
    let wants = subst (λ (o : Caller). (request : Request) × (knowledge_of o ≡ Some request)) (sym c.self.view_is) c.requires.wants in
    let first = lock_of_owner old new.world c.make.result c.self.invariant wants.0 wants.1 c.make.ensures.transition in
    c.make.ensures.step.knowledge ∙ ap (λ (reply : StoreReply). updated events.Granted reply (knowledge_of (owner_of old))) first ∙ ap (λ (o : Caller). option_map granted (knowledge_of o)) c.self.view_is
