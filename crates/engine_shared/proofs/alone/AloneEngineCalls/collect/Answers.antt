use Rattle.std.proofs.Common.{◌≡◌, ap, sym, subst, ◌∙◌}
use Rattle.engine_world.specs.declared.events.Event.TheVariants as events
use Rattle.engine_world.specs.declared.events.NotedReply.TheVariants as replies
use Rattle.engine_core.specs.Noted.{noted}
use Rattle.engine_shared.specs.Caller.{IsCall}
use Rattle.engine_shared.specs.Answers.{collected}
use Rattle.engine_shared.proofs.alone.AloneEngineCalls.collect.Goals as goal

made : (c : goal.After-outcome_of) → IsCall c.args.self.now (events.Collect c.args.hold.now.number) (noted c.step.result) c.step.new.self
made c = subst (λ n. IsCall c.args.self.now (events.Collect n) (noted c.step.result) c.step.new.self) c.number.ensures c.step.ensures.entry

pub outcome_of-requires : goal.outcome_of-requires
outcome_of-requires c =
    c.calls_are_answered.ensures.collects c.args.self.now c.step.new.self c.args.hold.now (noted c.step.result) c.requires.load
    (subst (λ n. IsCall c.args.self.now (events.Collect n) (noted c.step.result) c.step.new.self) c.number.ensures c.step.ensures.entry)

pub returns-clause-load : goal.returns-clause-load
returns-clause-load c =
    c.calls_tell_what_they_add.ensures.stay c.args.self.now c.step.new.self (events.Collect c.args.hold.now.number) (noted c.step.result) c.args.hold.now c.requires.load (made c) (λ is. is)

pub returns-clause-ready : goal.returns-clause-ready
returns-clause-ready c = λ is.
    let ready : noted c.step.result ≡ replies.Ready = sym c.outcome_of.ensures ∙ ap collected is in
    c.calls_tell_what_they_add.ensures.ready c.args.self.now c.step.new.self c.args.hold.now c.requires.load
    (subst (λ reply. IsCall c.args.self.now (events.Collect c.args.hold.now.number) reply c.step.new.self) ready (made c))
