use Rattle.engine_world.proofs.LaterLimits.{always_within}
use Rattle.engine_world.proofs.laws.each_history_keeps_limits.Goals as goal

pub returns : goal.returns
returns g c = always_within _ _
