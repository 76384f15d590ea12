use Rattle.std.proofs.Common.{◌≡◌, ◌*◌, ◌≤◌, drop}
use Rattle.std.specs.Prelude.{IfSome}
use Rattle.bitmap_pool.specs.Pool.{least_size}
use Rattle.bitmap_pool.specs.inside.GroupsView.{groups_of}
use Rattle.bitmap_pool.proofs.Least.{least_of}
use Rattle.bitmap_pool.proofs.groups.Groups.serving_size.Given as goal

-- the least so far and the least of those that are left are the least of all
abbrev pub invariant-loop-key : goal.invariant-loop-key
invariant-loop-key l =
    (least_of l.least (least_size l.config l.wanted (8 * l.wanted) (groups_of (drop l.key-index l.key-items) l.self-inside.bitmaps.items)) ≡ least_size l.config l.wanted (8 * l.wanted) l.self)
    × IfSome l.least (λ size. (l.wanted ≤ size) × (size ≤ 8 * l.wanted))
