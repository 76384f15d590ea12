use Rattle.engine_world.proofs.OnePlaces.{one_place, only_made}
use Rattle.engine_world.proofs.laws.each_bitmap_has_one_place.Goals as goal

pub returns-clause-one : goal.returns-clause-one
returns-clause-one c = one_place

pub returns-clause-made : goal.returns-clause-made
returns-clause-made c = only_made
