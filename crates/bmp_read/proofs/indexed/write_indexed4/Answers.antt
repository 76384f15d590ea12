use Rattle.std.proofs.Common.{ap, ◌∙◌}
use Rattle.bmp_read.specs.Pixel.{palette_colour, index4}
use Rattle.bmp_read.proofs.Columns.{column_more}
use Rattle.bmp_read.proofs.indexed.write_indexed4.Goals as goal

pub loop-x-preserved : goal.loop-x-preserved
loop-x-preserved c = column_more (λ x. palette_colour c.args.palette c.args.text.now (index4 c.args.row.now x)) c.loop-x.into c.put_pixel.new.into c.loop-x.x _ c.put_pixel.ensures (c.palette_colour.ensures ∙ ap (palette_colour c.args.palette c.args.text.now) c.index4.ensures.value) c.loop-x.invariant
