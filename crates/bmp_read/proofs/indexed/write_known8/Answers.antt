use Rattle.std.proofs.Common.{get_or}
use Rattle.bmp_read.specs.Pixel.{palette_colour}
use Rattle.bmp_read.proofs.Columns.{column_more}
use Rattle.bmp_read.proofs.indexed.write_known8.Goals as goal

pub loop-x-preserved : goal.loop-x-preserved
loop-x-preserved c = column_more (λ x. palette_colour c.args.palette c.args.text.now (get_or c.args.row.now x 0)) c.loop-x.into c.put_pixel.new.into c.loop-x.x _ c.put_pixel.ensures c.known_colour.ensures c.loop-x.invariant
