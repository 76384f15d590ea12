use Rattle.engine_world.specs.Knowledge.{knowledge_in}
use Rattle.engine_core.proofs.Permitted.{own_load}
use Rattle.engine_core.proofs.tables.Tables.answer_release.Goals as goal

pub release-requires-clause-may : goal.release-requires-clause-may
release-requires-clause-may c = (own_load c.args.self.now (knowledge_in c.args.history.now.value) c.requires.core.sound c.args.who c.args.number c.requires.permitted).1
