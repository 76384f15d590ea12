use Rattle.std.proofs.Common.{◌≡◌, true, rules}
use Rattle.random_events.specs.declared.seats.Taken.TheVariants.{Nothing}
use Rattle.engine_world.specs.Knowledge.{knowledge_in}
use Rattle.random_events.proofs.Working.{runs, none_out}
use Rattle.random_events.proofs.jobs.quit.Goals as goal

pub act-reply-requires-clause-permitted : goal.act-reply-requires-clause-permitted
act-reply-requires-clause-permitted c =
    let known = knowledge_in c.args.core.now.history c.args.who in
    let nothing : c.args.job.taken ≡ Nothing = search rules in
    let told : c.args.job.cancelled ≡ true = search rules in
    (runs known c.args.job c.requires.is, none_out known c.args.job c.requires.is nothing, c.requires.is.2.told told)
