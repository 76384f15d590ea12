use Rattle.engine_world.proofs.Holds.{shows_law}
use Rattle.engine_world.proofs.laws.ready_loads_show_their_keys.Goals as goal

pub returns : goal.returns
returns c = shows_law
