use Rattle.store_world.proofs.Histories.{always_sound}
use Rattle.store_world.proofs.laws.each_history_is_sound.Goals as goal

pub returns : goal.returns
returns g c opening now history = always_sound opening now history
