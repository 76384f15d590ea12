use Rattle.std.proofs.Common.{◌<◌, length, ap, sym, subst, ◌∙◌}
use Rattle.state_machine.specs.Histories.{entry}
use Rattle.engine_world.specs.World.{Limits, World}
use Rattle.engine_world.specs.Knowledge.{knowledge_in}
use Rattle.engine_world.specs.Permits.{Permits}
use Rattle.engine_core.specs.CoreView.{note_of}
use Rattle.engine_core.proofs.Tested.{own_known, other_known}
use Rattle.engine_core.proofs.tests.act.Goals as goal

pub step-requires-clause-who : goal.step-requires-clause-who
step-requires-clause-who c = c.requires.served.below

pub step-requires-clause-asks : goal.step-requires-clause-asks
step-requires-clause-asks c = subst (λ content. Permits content (knowledge_in c.args.core.now.history c.args.who) c.args.event) (sym c.requires.served.untold) c.requires.asks

pub returns-clause-own : goal.returns-clause-own
returns-clause-own c =
    own_known c.own_entries_append.ensures c.args.core.now.history c.step.new.self.history (entry c.args.who (note_of c.args.event c.step.result)) c.step.ensures.history

pub returns-clause-others : goal.returns-clause-others
returns-clause-others c = λ k other.
    other_known c.own_entries_append.ensures c.args.core.now.history c.step.new.self.history (entry c.args.who (note_of c.args.event c.step.result)) c.step.ensures.history k other

pub returns-clause-keeps : goal.returns-clause-keeps
returns-clause-keeps c = λ who served. record {
  below = subst (λ (l : Limits). who < length l.quotas) (sym (ap (λ (w : World). w.limits) c.step.ensures.opening)) served.below;
  untold = ap (λ (w : World). w.content) c.step.ensures.opening ∙ served.untold;
}
