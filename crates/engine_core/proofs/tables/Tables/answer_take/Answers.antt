use Rattle.engine_world.specs.Knowledge.{knowledge_in}
use Rattle.engine_core.proofs.Permitted.{may_count}
use Rattle.engine_core.proofs.tables.Tables.answer_take.Goals as goal

pub take-requires-clause-may : goal.take-requires-clause-may
take-requires-clause-may c =
    may_count c.args.self.now (knowledge_in c.args.history.now.value) c.requires.core.sound c.requires.core.within
    (c.rooms_suffice.ensures c.args.self.now (knowledge_in c.args.history.now.value) c.requires.core.sound c.requires.core.within) c.requires.core.served
