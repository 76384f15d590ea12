use Rattle.std.proofs.Common.{◌*◌}
use Rattle.bmp_read.specs.Pixel.{bgr_at}
use Rattle.bmp_read.proofs.Columns.{column_more}
use Rattle.bmp_read.proofs.direct.write_bgr32.Goals as goal

pub loop-x-preserved : goal.loop-x-preserved
loop-x-preserved c = column_more (λ x. bgr_at (4 * x) c.args.row.now) c.loop-x.into c.put_pixel_at_once.new.into c.loop-x.x _ c.put_pixel_at_once.ensures c.bgr.ensures c.loop-x.invariant
