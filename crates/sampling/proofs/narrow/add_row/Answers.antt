use Rattle.std.proofs.Common.{refl, arith}
use Rattle.sampling.proofs.Rows.{row_more, row_all, room_at}
use Rattle.sampling.proofs.narrow.add_row.Goals as goal

pub loop-x-preserved : goal.loop-x-preserved
loop-x-preserved c =
    row_more c.args.sums.now c.loop-x.sums c.add_block.new.lanes c.args.row.now c.args.columns c.args.blocks c.loop-x.x _ _ _ c.loop-x.invariant c.add_block.ensures c.requires.lanes c.loop-x-test.true (omega arith) (omega arith) refl

pub add_block-requires-clause-room : goal.add_block-requires-clause-room
add_block-requires-clause-room c = room_at c.args.sums.now c.loop-x.sums c.args.row.now c.args.columns c.loop-x.x _ _ c.loop-x.invariant c.requires.room

pub returns : goal.returns
returns c = row_all c.args.sums.now c.loop-x.sums c.args.row.now c.args.columns c.args.blocks c.loop-x.x c.loop-x.invariant c.loop-x-test.false
