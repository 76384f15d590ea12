use Rattle.engine_world.specs.Knowledge.{knowledge_in}
use Rattle.engine_core.proofs.Permitted.{gives_one}
use Rattle.engine_core.proofs.tables.Tables.answer_give_back.Goals as goal

pub give_back-requires-clause-lent : goal.give_back-requires-clause-lent
give_back-requires-clause-lent c = gives_one c.args.self.now (knowledge_in c.args.history.now.value) c.requires.core.sound c.args.who c.args.job c.args.bitmap c.requires.permitted.0 c.requires.permitted.1
