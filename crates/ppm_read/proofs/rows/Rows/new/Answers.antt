use Rattle.ppm_read.proofs.RowSteps.{width-rows_of, count-rows_of, head_facts}
use Rattle.ppm_read.proofs.rows.Rows.new.Goals as goal

pub split_at-requires : goal.split_at-requires
split_at-requires c = (head_facts c.args.bytes.now c.args.head c.requires).start

pub returns-clause-count : goal.returns-clause-count
returns-clause-count c = count-rows_of c.args.head c.args.head.height c.split_at.result.1.now

pub returns-clause-width : goal.returns-clause-width
returns-clause-width c = width-rows_of c.args.head c.args.head.height c.split_at.result.1.now

pub invariant_of-result : goal.invariant_of-result
invariant_of-result c = (head_facts c.args.bytes.now c.args.head c.requires).maximum
