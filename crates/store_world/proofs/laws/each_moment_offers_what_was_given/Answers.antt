use Rattle.store_world.proofs.Within.{within_law}
use Rattle.store_world.proofs.laws.each_moment_offers_what_was_given.Goals as goal

pub returns : goal.returns
returns c event = within_law event
