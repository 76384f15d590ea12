use Rattle.std.proofs.Common.{arith}
use Rattle.bmp_read.proofs.Lowering.{mask_above_zero}
use Rattle.bmp_read.proofs.masked.channel.Goals as goal

pub scaled-requires-clause-above_zero : goal.scaled-requires-clause-above_zero
scaled-requires-clause-above_zero c = omega (arith, mask_above_zero c.args.mask (omega arith) (omega arith), c.moved_down.ensures)
