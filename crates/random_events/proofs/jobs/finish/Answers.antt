use Rattle.std.proofs.Common.{◌≡◌, rules}
use Rattle.random_events.specs.declared.seats.Taken.TheVariants.{One}
use Rattle.engine_world.specs.Knowledge.{knowledge_in}
use Rattle.random_events.proofs.Working.{result_of}
use Rattle.random_events.proofs.jobs.finish.Goals as goal

pub finish_with-requires-clause-result : goal.finish_with-requires-clause-result
finish_with-requires-clause-result c =
    let one : c.args.job.taken ≡ One c.in-Ok.bitmap = search rules in
    result_of (knowledge_in c.args.core.now.history c.args.who) c.args.job c.requires.is c.in-Ok.bitmap c.paint.new.bitmap one c.paint.ensures
