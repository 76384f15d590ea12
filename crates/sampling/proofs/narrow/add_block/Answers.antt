use Rattle.std.proofs.Common.{arith}
use Rattle.sampling.proofs.narrow.add_block.Goals as goal

pub block_sums-requires-clause-room : goal.block_sums-requires-clause-room
block_sums-requires-clause-room c = omega (arith, c.requires.room 0)
