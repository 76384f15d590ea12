use Rattle.store_world.proofs.Histories.{own_entries_tell, others_learn_nothing}
use Rattle.store_world.proofs.laws.seats_learn_by_their_own_entries.Goals as goal

pub returns-clause-own : goal.returns-clause-own
returns-clause-own c = own_entries_tell

pub returns-clause-others : goal.returns-clause-others
returns-clause-others c = others_learn_nothing
