use Rattle.std.proofs.Common.{◌≤◌, ap, sym, ◌∙◌, arith}
use Rattle.bitmap_pool.specs.Pool.{PoolValue, pool_size, pool_trim}
use Rattle.bitmap_pool.proofs.Evictions.{no_eviction}
use Rattle.bitmap_pool.proofs.pools.Pool.trim_to.Goals as goal

pub returns-else-size-self : goal.returns-else-size-self
returns-else-size-self c =
    let size : pool_size c.self.inside.groups ≤ c.args.size = omega (arith, c.self.invariant.size, c.if-size-self.false) in
    let seen : PoolValue → PoolValue = λ v. record { maximum = v.maximum; groups = pool_trim c.args.size v.groups } in
    sym c.self.view_is ∙ (λ i. record { maximum = c.self.inside.maximum; groups = sym (no_eviction c.args.size 1024 c.self.inside.groups size c.self.invariant.count) i }) ∙ ap seen c.self.view_is
