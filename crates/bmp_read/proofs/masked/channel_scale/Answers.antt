use Rattle.std.proofs.Common.{arith}
use Rattle.bmp_read.proofs.Lowering.{mask_above_zero}
use Rattle.bmp_read.proofs.masked.channel_scale.Goals as goal

pub scale_of-requires-2 : goal.scale_of-requires-2
scale_of-requires-2 c = mask_above_zero c.args.mask (omega arith) (omega arith)
