use Rattle.std.proofs.Common.{◌^◌}
use Rattle.sampling.proofs.Means.{MeansSoFar}
use Rattle.sampling.proofs.wide.means_by_shift.Given as goal

abbrev pub invariant-loop-k : goal.invariant-loop-k
invariant-loop-k l = MeansSoFar l.initial.sums l.sums l.into (2 ^ l.shift) l.k
