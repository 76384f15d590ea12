use Rattle.script_walk.proofs.NextGather.{ends_at_next_gather}
use Rattle.script_walk.proofs.laws.begins_end_at_the_next_gather.Goals as goal

pub returns : goal.returns
returns c = ends_at_next_gather
