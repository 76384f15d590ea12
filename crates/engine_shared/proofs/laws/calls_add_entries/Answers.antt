use Rattle.engine_shared.proofs.Pictures.{steps_are_calls}
use Rattle.engine_shared.proofs.laws.calls_add_entries.Goals as goal

pub returns : goal.returns
returns c = steps_are_calls c.engine_laws.ensures
