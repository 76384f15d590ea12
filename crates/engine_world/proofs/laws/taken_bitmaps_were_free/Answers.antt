use Rattle.engine_world.proofs.OnePlaces.{takes_free, takes_another}
use Rattle.engine_world.proofs.laws.taken_bitmaps_were_free.Goals as goal

pub returns-clause-free : goal.returns-clause-free
returns-clause-free c = takes_free

pub returns-clause-another : goal.returns-clause-another
returns-clause-another c = takes_another
