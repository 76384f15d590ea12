use Rattle.std.proofs.Common.{ap, ◌∙◌}
use Rattle.bmp_read.specs.Pixel.{palette_colour, index1}
use Rattle.bmp_read.proofs.Columns.{column_more}
use Rattle.bmp_read.proofs.indexed.write_indexed1.Goals as goal

pub loop-x-preserved : goal.loop-x-preserved
loop-x-preserved c = column_more (λ x. palette_colour c.args.palette c.args.text.now (index1 c.args.row.now x)) c.loop-x.into c.put_pixel_at_once.new.into c.loop-x.x _ c.put_pixel_at_once.ensures (c.palette_colour.ensures ∙ ap (palette_colour c.args.palette c.args.text.now) c.index1.ensures) c.loop-x.invariant
