use Rattle.script_walk.proofs.ByPlace.{moves_go_by_place}
use Rattle.script_walk.proofs.laws.moves_go_by_place.Goals as goal

pub returns : goal.returns
returns c = moves_go_by_place
