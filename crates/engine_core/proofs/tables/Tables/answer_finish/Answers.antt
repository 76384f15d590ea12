use Rattle.engine_world.specs.Knowledge.{knowledge_in}
use Rattle.engine_core.proofs.Permitted.{place_for}
use Rattle.engine_core.proofs.tables.Tables.answer_finish.Goals as goal

pub finish-requires-clause-place : goal.finish-requires-clause-place
finish-requires-clause-place c =
    place_for c.args.self.now (knowledge_in c.args.history.now.value) c.requires.core.sound c.args.who c.args.job c.args.bitmap c.requires.permitted.0 c.requires.permitted.1
    (c.rooms_suffice.ensures c.args.self.now (knowledge_in c.args.history.now.value) c.requires.core.sound c.requires.core.within)
