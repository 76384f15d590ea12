use Rattle.std.proofs.Common.{arith}
use Rattle.image_format.proofs.Planned.{sample_some}
use Rattle.image_format.proofs.plan.plan_under.Goals as goal

pub sampled_side-requires : goal.sampled_side-requires
sampled_side-requires c = omega (arith, c.sample_for-sample.ensures, sample_some c.each_sample_is_a_power.ensures c.args.source (c.key.inside.width, c.key.inside.height) c.key.inside.rule)

pub sampled_side-requires-2 : goal.sampled_side-requires-2
sampled_side-requires-2 c = omega (arith, c.sample_for-sample.ensures, sample_some c.each_sample_is_a_power.ensures c.args.source (c.key.inside.width, c.key.inside.height) c.key.inside.rule)
