use Rattle.std.proofs.Common.{arith, rules}
use Rattle.ppm_read.proofs.PlainRows.{written_more, written_fails, written_all}
use Rattle.ppm_read.proofs.plain.plain_row.Goals as goal

pub returns-in_err-pixel : goal.returns-in_err-pixel
returns-in_err-pixel c =
    let e = written_fails c.args.head c.args.last c.args.head.width c.loop-x.x c.loop-x.rest.now _ c.is_last_pixel.result c.in_err-pixel.field-0.0 _ c.loop-x-test.true c.is_last_pixel.ensures c.in_err-pixel.ensures c.loop-x.invariant in
    search (rules, e)

pub loop-x-preserved : goal.loop-x-preserved
loop-x-preserved c =
    written_more c.args.head c.args.last c.args.head.width c.loop-x.x c.loop-x.rest.now c.in_ok-pixel.after.now _ c.loop-x.into c.put_pixel.new.into c.is_last_pixel.result _ c.loop-x-test.true c.is_last_pixel.ensures c.in_ok-pixel.ensures c.put_pixel.ensures c.loop-x.invariant

pub returns : goal.returns
returns c = written_all c.args.head c.args.last c.args.head.width c.loop-x.x c.loop-x.rest.now c.loop-x.into _ c.loop-x-test.false (omega (arith, c.requires.into)) c.loop-x.invariant
