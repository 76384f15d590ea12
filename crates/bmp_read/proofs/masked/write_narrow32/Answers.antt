use Rattle.std.proofs.Common.{◌*◌, ap, ◌∙◌}
use Rattle.bmp_read.specs.Pixel.{masked_colour}
use Rattle.bmp_read.specs.Bytes.{u32_at}
use Rattle.bmp_read.proofs.Columns.{column_more}
use Rattle.bmp_read.proofs.masked.write_narrow32.Goals as goal

pub loop-x-preserved : goal.loop-x-preserved
loop-x-preserved c = column_more (λ x. masked_colour c.args.masks (u32_at (4 * x) c.args.row.now)) c.loop-x.into c.put_pixel.new.into c.loop-x.x _ c.put_pixel.ensures (c.colour_by.ensures ∙ ap (masked_colour c.args.masks) c.u32_at.ensures) c.loop-x.invariant
