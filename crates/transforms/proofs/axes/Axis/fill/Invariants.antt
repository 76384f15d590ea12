use Rattle.std.proofs.Common.{◌≡◌, ℕ, ◌+◌, ◌<◌, get_or}
use Rattle.transforms.specs.Axis.{axis_place}
use Rattle.transforms.proofs.axes.Axis.fill.Given as goal

abbrev pub invariant-loop-i : goal.invariant-loop-i
invariant-loop-i l = (j : ℕ) → j < l.i → get_or l.into j 0 ≡ axis_place l.self (l.first + j)
