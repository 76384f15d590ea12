use Rattle.store_world.proofs.Off.{off_law}
use Rattle.store_world.proofs.laws.each_event_keeps_what_is_off.Goals as goal

pub returns : goal.returns
returns c event = off_law event
