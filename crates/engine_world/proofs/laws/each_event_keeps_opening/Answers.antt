use Rattle.engine_world.proofs.Fixed.{opening_law}
use Rattle.engine_world.proofs.laws.each_event_keeps_opening.Goals as goal

pub returns : goal.returns
returns c event = opening_law event
