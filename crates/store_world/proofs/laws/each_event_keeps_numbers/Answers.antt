use Rattle.store_world.proofs.Settings.{numbers_law}
use Rattle.store_world.proofs.laws.each_event_keeps_numbers.Goals as goal

pub returns : goal.returns
returns c event = numbers_law event
