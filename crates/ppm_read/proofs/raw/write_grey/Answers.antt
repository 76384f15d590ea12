use Rattle.std.proofs.Common.{sym, ◌∙◌, arith}
use Rattle.ppm_read.specs.declared.header.Channels.TheVariants.{Grey}
use Rattle.ppm_read.proofs.Pixels.{row_more, row_all, grey_at}
use Rattle.ppm_read.proofs.raw.write_grey.Goals as goal

pub loop-x-preserved : goal.loop-x-preserved
loop-x-preserved c =
    row_more Grey c.args.row.now c.loop-x.into c.put_pixel.new.into _ c.loop-x.x (omega arith) c.put_pixel.ensures (grey_at c.args.row.now c.loop-x.x (omega arith) ∙ sym c.opaque.ensures) c.loop-x.invariant

pub returns : goal.returns
returns c = row_all Grey c.args.row.now c.loop-x.into c.loop-x.x (omega arith) (omega (arith, c.requires)) c.loop-x.invariant
