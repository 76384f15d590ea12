use Rattle.sampling.proofs.Runs.{IsRun}
use Rattle.sampling.proofs.picture.sampled_picture.Given as goal

abbrev pub invariant-loop-y : goal.invariant-loop-y
invariant-loop-y l = IsRun l.width l.height l.sample l.pixels l.y l.rows l.row.items l.picture.items
