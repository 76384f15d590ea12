use Rattle.std.proofs.Common.{sym, subst}
use Rattle.store_world.specs.Permits.{Permits}
use Rattle.store_shared.specs.Caller.{Caller, content_of, knowledge_of}
use Rattle.store_shared.proofs.alone.OwnedStoreStoreSteps.step.Goals as goal

pub make-requires-clause-asks : goal.make-requires-clause-asks
make-requires-clause-asks g c = subst (λ (o : Caller). Permits (content_of o) (knowledge_of o) c.args.event) (sym c.self.view_is) c.requires.asks
