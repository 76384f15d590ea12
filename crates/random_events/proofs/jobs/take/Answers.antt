use Rattle.std.proofs.Common.{◌≡◌, rules, Some, ap, sym, subst, arith}
use Rattle.engine_core.specs.Noted.{noted}
use Rattle.engine_world.specs.Knowledge.{knowledge_in}
use Rattle.random_events.specs.declared.seats.RunningJob.{RunningJob}
use Rattle.random_events.specs.Jobs.{IsJobAct}
use Rattle.random_events.specs.Written.{bitmap_in, IsBelowTwo}
use Rattle.random_events.proofs.Working.{few_pixels, loads_beside_take, job_act, runs, took}
use Rattle.random_events.proofs.jobs.take.Goals as goal

pub act-reply-requires-clause-permitted : goal.act-reply-requires-clause-permitted
act-reply-requires-clause-permitted c =
    let is = c.requires.is in
    let size = c.sides-width.ensures in
    (runs (knowledge_in c.args.core.now.history c.args.who) c.args.job is, omega (arith, is.2.takes, c.if-job-ge2.false), few_pixels _ _ size.wide size.high size.width size.height)

pub returns-in-Some : goal.returns-in-Some
returns-in-Some c =
    let known = knowledge_in c.args.core.now.history c.args.who in
    let same : bitmap_in c.act-reply.result ≡ Some c.in-Some.bitmap = search rules in
    let few : IsBelowTwo c.args.job.taken = search rules in
    subst (λ (j : RunningJob). IsJobAct c.args.who c.args.core.now c.act-reply.new.core (Some j)) (sym c.with.ensures)
    (job_act c.args.who c.args.core.now c.act-reply.new.core _ _ c.act-reply.ensures.acts c.act-reply.ensures.own
    (loads_beside_take c.args.job.number c.sides-width.result.0 c.sides-width.result.1 c.args.config (noted c.act-reply.result) known)
    (took known c.args.job c.requires.is c.args.job.number c.sides-width.result.0 c.sides-width.result.1 c.args.config c.act-reply.result c.in-Some.bitmap same few))
