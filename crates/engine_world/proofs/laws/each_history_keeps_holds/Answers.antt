use Rattle.engine_world.proofs.LaterHolds.{always_held}
use Rattle.engine_world.proofs.laws.each_history_keeps_holds.Goals as goal

pub returns : goal.returns
returns g c world history note = always_held world history note
