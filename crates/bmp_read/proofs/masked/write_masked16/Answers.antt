use Rattle.std.proofs.Common.{◌*◌, ap, ◌∙◌}
use Rattle.bmp_read.specs.Pixel.{masked_colour}
use Rattle.bmp_read.specs.Bytes.{u16_at}
use Rattle.bmp_read.proofs.Columns.{column_more}
use Rattle.bmp_read.proofs.Lowering.{narrow_masks}
use Rattle.bmp_read.proofs.masked.write_masked16.Goals as goal

pub loop-x-preserved : goal.loop-x-preserved
loop-x-preserved c = column_more (λ x. masked_colour c.args.masks (u16_at (2 * x) c.args.row.now)) c.loop-x.into c.put_pixel.new.into c.loop-x.x _ c.put_pixel.ensures (c.colour_by.ensures ∙ ap (masked_colour c.args.masks) (c.from-value.ensures ∙ c.u16_at.ensures)) c.loop-x.invariant

pub scales_of-scales-requires : goal.scales_of-scales-requires
scales_of-scales-requires c = narrow_masks c.args.masks c.requires.masks
