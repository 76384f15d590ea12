use Rattle.std.proofs.Common.{sym, ◌∙◌, arith}
use Rattle.ppm_read.specs.declared.header.Channels.TheVariants.{Colour}
use Rattle.ppm_read.proofs.Pixels.{row_more, row_all, colour_at}
use Rattle.ppm_read.proofs.raw.write_colour.Goals as goal

pub loop-x-preserved : goal.loop-x-preserved
loop-x-preserved c =
    row_more Colour c.args.row.now c.loop-x.into c.put_pixel_at_once.new.into _ c.loop-x.x (omega arith) c.put_pixel_at_once.ensures (colour_at c.args.row.now c.loop-x.x (omega arith) ∙ sym c.opaque.ensures) c.loop-x.invariant

pub returns : goal.returns
returns c = row_all Colour c.args.row.now c.loop-x.into c.loop-x.x (omega arith) (omega arith) c.loop-x.invariant
