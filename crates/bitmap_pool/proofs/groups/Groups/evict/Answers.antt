use Rattle.std.proofs.Common.{◌+◌, ◌<◌, ◌≤◌, List, length, ap, subst, sym, ◌∙◌, inl, inr, arith}
use Rattle.bitmap_kind.specs.Picture.{BitmapValue}
use Rattle.bitmap_pool.specs.Pool.{Group, pool_size, pool_count, pool_trim}
use Rattle.bitmap_pool.specs.Evicting.{evict_one, IsPoolOver}
use Rattle.bitmap_pool.proofs.Evictions.{evictions_end, evictions_fall, no_eviction}
use Rattle.bitmap_pool.proofs.groups.Groups.evict.Goals as goal
use Rattle.bitmap_pool.proofs.groups.Groups.evict.Goals.{then-size-from, else-size-from+then-count-gt-MOST_BITMAPS}

pub loop-self-smaller : goal.loop-self-smaller
loop-self-smaller c =
    let now : List (Group BitmapValue) = c.loop-self.self in
    let over : IsPoolOver c.args.room 1024 now = elim c.if-size-from.branch [
      | then-size-from w ↦ inl (omega (arith, w.if-size-from.true, c.size.ensures.size, c.from.ensures))
      | else-size-from+then-count-gt-MOST_BITMAPS w ↦ inr (omega (arith, w.if-count-gt-MOST_BITMAPS.true, w.count.ensures.count))
    ] in
    let fall : length (evict_one now) + pool_count (evict_one now) < length now + pool_count now = evictions_fall c.args.room 1024 now over in
    subst (λ (l : List (Group BitmapValue)). length l + pool_count l < length now + pool_count now) (sym c.evict_one.ensures) fall

pub loop-self-preserved : goal.loop-self-preserved
loop-self-preserved c =
    let now : List (Group BitmapValue) = c.loop-self.self in
    let over : IsPoolOver c.args.room 1024 now = elim c.if-size-from.branch [
      | then-size-from w ↦ inl (omega (arith, w.if-size-from.true, c.size.ensures.size, c.from.ensures))
      | else-size-from+then-count-gt-MOST_BITMAPS w ↦ inr (omega (arith, w.if-count-gt-MOST_BITMAPS.true, w.count.ensures.count))
    ] in
    ap (pool_trim c.args.room) c.evict_one.ensures ∙ evictions_end c.args.room 1024 now over ∙ c.loop-self.invariant

pub returns-clause-groups : goal.returns-clause-groups
returns-clause-groups c =
    let now : List (Group BitmapValue) = c.loop-self.self in
    let size : pool_size now ≤ c.args.room = omega (arith, c.if-size-from.false, c.size.ensures.size, c.from.ensures) in
    let count : pool_count now ≤ 1024 = omega (arith, c.if-count-gt-MOST_BITMAPS.false, c.count.ensures.count) in
    sym (no_eviction c.args.room 1024 now size count) ∙ c.loop-self.invariant
