use Rattle.std.proofs.Common.{◌+◌}
use Rattle.transforms.specs.Axis.{axis_place}
use Rattle.transforms.specs.Steps.{MovesColumns}
use Rattle.transforms.proofs.moves.move_run.Given as goal

abbrev pub invariant-loop-y : goal.invariant-loop-y
invariant-loop-y l = MovesColumns l.source.picture l.initial.target l.target l.x l.count l.y (λ i. l.first + i) (axis_place l.rows)
