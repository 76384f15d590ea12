use Rattle.std.proofs.Common.{◌≡◌, ◌-◌, ◌≤◌, length}
use Rattle.transforms.specs.Axis.{axis_place}
use Rattle.transforms.specs.Steps.{MovesColumns}
use Rattle.transforms.proofs.moves.move_pixels.Given as goal

abbrev pub invariant-loop-x : goal.invariant-loop-x
invariant-loop-x l = record {
  size : length l.places ≡ 1024;
  within : l.x ≤ l.width;
  done : MovesColumns l.source.picture l.initial.target l.target 0 l.x l.initial.target.picture.height (axis_place l.columns) (axis_place l.rows);
}

abbrev pub decreases-loop-x : goal.decreases-loop-x
decreases-loop-x l = l.width - l.x
