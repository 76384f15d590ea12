use Rattle.script_walk.proofs.Blames.{blames_are_ends}
use Rattle.script_walk.proofs.laws.blamed_sources_failed.Goals as goal

pub returns : goal.returns
returns c = blames_are_ends
