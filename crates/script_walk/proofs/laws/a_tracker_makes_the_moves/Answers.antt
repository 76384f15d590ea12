use Rattle.script_walk.proofs.Tracked.{tracker_makes_the_moves}
use Rattle.script_walk.proofs.laws.a_tracker_makes_the_moves.Goals as goal

pub returns : goal.returns
returns c = tracker_makes_the_moves
