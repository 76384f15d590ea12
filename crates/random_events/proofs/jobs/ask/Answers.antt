use Rattle.std.proofs.Common.{Bool, Some, ap, sym, subst, ◌∙◌}
use Rattle.engine_core.specs.Noted.{noted}
use Rattle.engine_world.specs.Knowledge.{knowledge_in}
use Rattle.random_events.specs.declared.seats.RunningJob.{RunningJob}
use Rattle.random_events.specs.Jobs.{IsJobAct}
use Rattle.random_events.proofs.Working.{loads_beside_ask, job_act, asked}
use Rattle.random_events.proofs.jobs.ask.Goals as goal

pub returns : goal.returns
returns c =
    let known = knowledge_in c.args.core.now.history c.args.who in
    let told = c.told.ensures ∙ ap (λ (b : Bool). record c.args.job { cancelled = b }) c.is_told_by.ensures in
    subst (λ (j : RunningJob). IsJobAct c.args.who c.args.core.now c.act-reply.new.core (Some j)) (sym told)
    (job_act c.args.who c.args.core.now c.act-reply.new.core _ _ c.act-reply.ensures.acts c.act-reply.ensures.own
    (loads_beside_ask c.args.job.number (noted c.act-reply.result) known)
    (asked known c.args.job c.requires.is c.args.job.number c.act-reply.result))
