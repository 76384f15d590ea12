use Rattle.std.proofs.Common.{◌≡◌, rules, Some, refl, ap, sym, subst}
use Rattle.engine_core.specs.Noted.{noted}
use Rattle.engine_world.specs.Knowledge.{knowledge_in}
use Rattle.random_events.specs.declared.seats.Taken.{Taken}
use Rattle.random_events.specs.declared.seats.RunningJob.{RunningJob}
use Rattle.random_events.specs.Jobs.{IsJobAct, Splits}
use Rattle.random_events.proofs.Working.{job_act, runs, gave}
use Rattle.random_events.proofs.jobs.give_back.Goals as goal

pub act-reply-requires-clause-permitted : goal.act-reply-requires-clause-permitted
act-reply-requires-clause-permitted c =
    let is = c.requires.is in
    let apart : (taken : Taken) × (c.split-job.result.0 ≡ record c.args.job { taken = taken }) × Splits c.args.job.taken taken c.in-Some.bitmap = search rules in
    (runs (knowledge_in c.args.core.now.history c.args.who) c.args.job is, (apart.2 is.0.out is.2.out).0)

pub returns : goal.returns
returns c =
    let known = knowledge_in c.args.core.now.history c.args.who in
    let apart : (taken : Taken) × (c.split-job.result.0 ≡ record c.args.job { taken = taken }) × Splits c.args.job.taken taken c.in-Some.bitmap = search rules in
    subst (λ (j : RunningJob). IsJobAct c.args.who c.args.core.now c.act-reply.new.core (Some j)) (sym apart.1)
    (job_act c.args.who c.args.core.now c.act-reply.new.core _ _ c.act-reply.ensures.acts c.act-reply.ensures.own (refl, refl)
    (gave known c.args.job c.requires.is c.args.job.number c.in-Some.bitmap apart.0 (noted c.act-reply.result) apart.2))
