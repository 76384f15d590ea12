use Rattle.engine_world.proofs.RoomsFit.{rooms_law}
use Rattle.engine_world.proofs.laws.rooms_suffice.Goals as goal

pub returns : goal.returns
returns c = rooms_law
