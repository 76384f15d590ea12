use Rattle.std.proofs.Common.{◌≡◌, cond, drop}
use Rattle.ppm_read.specs.Number.{after_gap, after_comment}
use Rattle.ppm_read.proofs.number.gap_length.Given as goal

abbrev pub invariant-loop-at : goal.invariant-loop-at
invariant-loop-at l = cond l.in_comment (after_comment (drop l.at l.text)) (after_gap (drop l.at l.text)) ≡ after_gap l.text
