use Rattle.std.proofs.Common.{sym, subst}
use Rattle.engine_world.specs.Permits.{Permits}
use Rattle.engine_shared.specs.Caller.{Caller, content_of, knowledge_of}
use Rattle.engine_shared.proofs.Owning.{stays_owned}
use Rattle.engine_shared.proofs.alone.Alone.step.Goals as goal

pub call-requires-clause-permits : goal.call-requires-clause-permits
call-requires-clause-permits c = subst (λ (o : Caller). Permits (content_of o) (knowledge_of o) c.args.event) (sym c.self.view_is) c.requires.permits

pub invariant_of-self : goal.invariant_of-self
invariant_of-self c = stays_owned c.self.inside.core c.call.new.core c.self.inside.begun c.args.event _ c.self.invariant c.requires.other c.call.ensures.entry
