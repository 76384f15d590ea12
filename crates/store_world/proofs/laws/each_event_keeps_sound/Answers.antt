use Rattle.store_world.proofs.EventLaws.{event_law}
use Rattle.store_world.proofs.laws.each_event_keeps_sound.Goals as goal

pub returns : goal.returns
returns c event = event_law event
