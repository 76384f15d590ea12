use Rattle.store_world.proofs.Histories.{opening_sound}
use Rattle.store_world.proofs.laws.openings_are_sound.Goals as goal

pub returns : goal.returns
returns c content before w o holds = opening_sound content before w o holds
