use Rattle.store_world.proofs.Histories.{always_right}
use Rattle.store_world.proofs.laws.each_history_offers_what_is_right.Goals as goal

pub returns : goal.returns
returns g c opening now history = always_right opening now history
