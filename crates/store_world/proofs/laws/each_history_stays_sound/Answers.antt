use Rattle.store_world.proofs.Histories.{stays_sound}
use Rattle.store_world.proofs.laws.each_history_stays_sound.Goals as goal

pub returns : goal.returns
returns g c opening now history = stays_sound opening now history
