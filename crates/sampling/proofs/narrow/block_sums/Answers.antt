use Rattle.std.proofs.Common.{◌≡◌, ℕ, ◌+◌, ◌*◌, ◌<◌, get_or, refl, ap, arith}
use Rattle.sampling.proofs.LineSums.{IsChannelSum_more}
use Rattle.sampling.proofs.narrow.block_sums.Goals as goal

pub loop-i-preserved : goal.loop-i-preserved
loop-i-preserved c =
    let block = c.args.block.now in
    let i = c.loop-i.i in
    let small : (k : ℕ) → get_or block k 0 < 256 = λ k. omega (arith, c.type_inv.block k) in (
      IsChannelSum_more block i 0 c.loop-i.red _ c.loop-i.invariant.0 (ap (λ j. get_or block j 0) (let e : 4 * i ≡ 4 * i + 0 = omega arith in e)) (small (4 * i)),
      IsChannelSum_more block i 1 c.loop-i.green _ c.loop-i.invariant.1 refl (small (4 * i + 1)),
      IsChannelSum_more block i 2 c.loop-i.blue _ c.loop-i.invariant.2 refl (small (4 * i + 2)),
      IsChannelSum_more block i 3 c.loop-i.alpha _ c.loop-i.invariant.3 refl (small (4 * i + 3)),
    )
