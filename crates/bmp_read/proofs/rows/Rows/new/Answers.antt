use Rattle.std.proofs.Common.{arith}
use Rattle.bmp_read.proofs.Heads.{head_facts}
use Rattle.bmp_read.proofs.RowSteps.{count-rows_of}
use Rattle.bmp_read.proofs.rows.Rows.new.Goals as goal

pub invariant_of-result : goal.invariant_of-result
invariant_of-result c =
    let facts = head_facts c.args.bytes.now c.args.head (λ i. omega (arith, c.type_inv.bytes i)) c.requires in
    (facts.1, facts.0, omega arith)

pub returns-clause-count : goal.returns-clause-count
returns-clause-count c =
    let facts = head_facts c.args.bytes.now c.args.head (λ i. omega (arith, c.type_inv.bytes i)) c.requires in
    count-rows_of c.args.head c.args.bytes.now facts.0.high.0
