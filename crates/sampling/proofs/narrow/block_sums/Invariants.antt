use Rattle.sampling.proofs.LineSums.{IsChannelSum}
use Rattle.sampling.proofs.narrow.block_sums.Given as goal

abbrev pub invariant-loop-i : goal.invariant-loop-i
invariant-loop-i l = IsChannelSum l.block l.i 0 l.red × IsChannelSum l.block l.i 1 l.green × IsChannelSum l.block l.i 2 l.blue × IsChannelSum l.block l.i 3 l.alpha
