use Rattle.store_world.proofs.Histories.{always_given}
use Rattle.store_world.proofs.laws.each_history_offers_what_was_given.Goals as goal

pub returns : goal.returns
returns g c opening now history = always_given opening now history
