use Rattle.bitmap_pool.specs.Pool.{serving_size}
use Rattle.bitmap_pool.proofs.Limits.{put_is, pick_is, trim_is}
use Rattle.bitmap_pool.proofs.laws.pools_stay_within_limits.Goals as goal

pub returns-clause-puts : goal.returns-clause-puts
returns-clause-puts g c maximum size config x groups is = put_is maximum size config x groups is

pub returns-clause-picks : goal.returns-clause-picks
returns-clause-picks g c maximum wanted config groups is = pick_is maximum (serving_size config wanted groups) config groups is

pub returns-clause-trims : goal.returns-clause-trims
returns-clause-trims g c maximum room groups is = trim_is room groups is.apart is.few_groups
