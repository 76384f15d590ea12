use Rattle.store_world.proofs.Histories.{always_off}
use Rattle.store_world.proofs.laws.each_history_keeps_what_is_off.Goals as goal

pub returns : goal.returns
returns g c opening now history = always_off opening now history
