use Rattle.std.proofs.Common.{◌≡◌, ap, sym, subst, ◌∙◌}
use Rattle.engine_world.specs.declared.events.Event.TheVariants as events
use Rattle.engine_world.specs.declared.events.NotedReply.{NotedReply}
use Rattle.engine_world.specs.declared.events.NotedReply.TheVariants as replies
use Rattle.engine_core.specs.Noted.{noted, lent_by}
use Rattle.engine_shared.specs.Caller.{IsCall}
use Rattle.engine_shared.specs.Answers.{taken}
use Rattle.engine_shared.proofs.alone.AloneEngineCalls.take.Goals as goal

pub step-reply-requires-clause-permits : goal.step-reply-requires-clause-permits
step-reply-requires-clause-permits c = (record { job = c.args.pass.now; is = c.requires.job; number = sym c.number.ensures }, c.requires.takes, c.requires.size)

pub returns-clause-other : goal.returns-clause-other
returns-clause-other c =
    let is : noted c.step-reply.result ≡ replies.Taken (lent_by c.in_ok-bitmap.bitmap) = sym c.bitmap_of.ensures ∙ ap taken c.in_ok-bitmap.was in
    c.calls_tell_what_they_add.ensures.takes c.args.self.now c.step-reply.new.self c.args.pass.now c.args.width c.args.height c.args.config (lent_by c.in_ok-bitmap.bitmap) c.requires.job
    (subst (λ n. IsCall c.args.self.now (events.Take n c.args.width c.args.height c.args.config) (replies.Taken (lent_by c.in_ok-bitmap.bitmap)) c.step-reply.new.self) c.number.ensures
    (subst (λ (reply : NotedReply). IsCall c.args.self.now (events.Take c.number.result c.args.width c.args.height c.args.config) reply c.step-reply.new.self) is c.step-reply.ensures.entry))
