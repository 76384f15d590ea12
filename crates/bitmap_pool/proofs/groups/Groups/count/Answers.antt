use Rattle.std.proofs.Common.{◌≡◌, length, ap, sym, ◌∙◌, arith}
use Rattle.bitmap_pool.specs.Pool.{pool_count}
use Rattle.bitmap_pool.proofs.Steps
use Rattle.bitmap_pool.proofs.groups.Groups.count.Goals as goal

pub returns-clause-count : goal.returns-clause-count
returns-clause-count c = c.len.ensures ∙ (omega arith) ∙ sym (Steps.sums c.self.inside.keys.items c.self.inside.bitmaps.items c.self.invariant.apart c.self.invariant.placed).1 ∙ ap pool_count c.self.view_is

pub returns-clause-few : goal.returns-clause-few
returns-clause-few c =
    let count : pool_count c.args.self.now ≡ length c.self.inside.bitmaps.items = ap pool_count (sym c.self.view_is) ∙ (Steps.sums c.self.inside.keys.items c.self.inside.bitmaps.items c.self.invariant.apart c.self.invariant.placed).1 in
    omega (arith, count, c.self.invariant.few_bitmaps)
