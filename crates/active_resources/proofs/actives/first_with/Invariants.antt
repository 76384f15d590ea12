use Rattle.std.proofs.Common.{◌≡◌, drop}
use Rattle.std.specs.List.{find}
use Rattle.active_resources.specs.inside.Numbers.{has_key}
use Rattle.active_resources.proofs.actives.first_with.Given as goal

-- none of those that the loop has passed has the key
abbrev pub invariant-loop-number : goal.invariant-loop-number
invariant-loop-number g l = find (has_key (g.R.KeyOf.keys l.keys) l.key) (drop l.number-index l.numbers) ≡ find (has_key (g.R.KeyOf.keys l.keys) l.key) l.numbers
