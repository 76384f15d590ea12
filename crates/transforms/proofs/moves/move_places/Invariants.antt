use Rattle.std.proofs.Common.{length, get_or}
use Rattle.transforms.specs.Axis.{axis_place}
use Rattle.transforms.specs.Steps.{MovesColumns}
use Rattle.transforms.proofs.moves.move_places.Given as goal

abbrev pub invariant-loop-y : goal.invariant-loop-y
invariant-loop-y l = MovesColumns l.source.picture l.initial.target l.target l.x (length l.places) l.y (λ i. get_or l.places i 0) (axis_place l.rows)
