use Rattle.store_world.proofs.Within.{right_law}
use Rattle.store_world.proofs.laws.each_moment_offers_what_is_right.Goals as goal

pub returns : goal.returns
returns c event = right_law event
