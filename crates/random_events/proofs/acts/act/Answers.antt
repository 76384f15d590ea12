use Rattle.std.proofs.Common.{length, ap, sym, subst}
use Rattle.state_machine.specs.Histories.{entry}
use Rattle.engine_world.specs.World.{World}
use Rattle.engine_world.specs.Knowledge.{knowledge_in}
use Rattle.engine_world.specs.Permits.{Permits}
use Rattle.engine_core.specs.CoreView.{note_of}
use Rattle.random_events.proofs.Entries.{own_known, other_known}
use Rattle.random_events.proofs.acts.act.Goals as goal

pub step-requires-clause-asks : goal.step-requires-clause-asks
step-requires-clause-asks c = subst (λ content. Permits content (knowledge_in c.args.core.now.history c.args.who) c.args.event) (sym c.requires.untold) c.requires.permitted

pub returns-clause-own : goal.returns-clause-own
returns-clause-own c =
    own_known c.own_entries_append.ensures c.args.core.now.history c.step.new.self.history (entry c.args.who (note_of c.args.event c.step.result)) c.step.ensures.history

pub returns-clause-acts : goal.returns-clause-acts
returns-clause-acts c = record {
  quotas = ap (λ (w : World). length w.limits.quotas) c.step.ensures.opening;
  content = ap (λ (w : World). w.content) c.step.ensures.opening;
  others = other_known c.own_entries_append.ensures c.args.core.now.history c.step.new.self.history (entry c.args.who (note_of c.args.event c.step.result)) c.step.ensures.history;
}
