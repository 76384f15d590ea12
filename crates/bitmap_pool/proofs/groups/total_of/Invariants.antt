use Rattle.std.proofs.Common.{◌≡◌, ◌*◌, ◌^◌, ◌≤◌, take, sum_by}
use Rattle.bitmap_pool.specs.inside.GroupsView.{allocation_in}
use Rattle.bitmap_pool.proofs.groups.total_of.Given as goal

abbrev pub invariant-loop-bitmap : goal.invariant-loop-bitmap
invariant-loop-bitmap l = (l.total ≡ sum_by allocation_in (take l.bitmap-index l.bitmaps)) × (l.total ≤ l.bitmap-index * 2 ^ 64)
