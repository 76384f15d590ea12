use Rattle.std.proofs.Common.{arith}
use Rattle.bmp_read.proofs.RowSteps.{row_inside}
use Rattle.bmp_read.proofs.rows.stored_row.Goals as goal

pub split_at-requires-3 : goal.split_at-requires-3
split_at-requires-3 c = omega (arith, row_inside c.args.head c.args.text.now c.row_length-length.result c.args.index c.row_length-length.ensures c.requires.inside c.requires.index, c.split_at-2.ensures.back_len, c.split_at.ensures.back_len)
