use Rattle.std.proofs.Common.{◌≡◌, false, drop}
use Rattle.std.specs.List.{list_any}
use Rattle.bitmap_pool.specs.inside.GroupsView.{is_bare}
use Rattle.bitmap_pool.proofs.groups.last_bare.Given as goal

-- none of those that the loop has passed
abbrev pub invariant-loop-i : goal.invariant-loop-i
invariant-loop-i l = list_any (is_bare l.bitmaps) (drop l.i l.keys) ≡ false
