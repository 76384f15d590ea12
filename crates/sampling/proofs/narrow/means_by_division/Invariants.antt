use Rattle.sampling.proofs.Means.{MeansSoFar}
use Rattle.sampling.proofs.narrow.means_by_division.Given as goal

abbrev pub invariant-loop-i : goal.invariant-loop-i
invariant-loop-i l = MeansSoFar l.initial.sums l.sums l.into l.count l.i
