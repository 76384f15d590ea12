use Rattle.store_world.proofs.Settings.{room_keeps}
use Rattle.store_world.proofs.laws.room_keeps.Goals as goal

pub returns : goal.returns
returns c = room_keeps
