use Rattle.sampling.proofs.Rows.{RowSoFar}
use Rattle.sampling.proofs.narrow.add_row.Given as goal

abbrev pub invariant-loop-x : goal.invariant-loop-x
invariant-loop-x l = RowSoFar l.initial.sums l.sums l.row l.columns l.x
