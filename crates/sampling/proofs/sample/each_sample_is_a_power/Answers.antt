use Rattle.std.proofs.Common.{◌/◌, min}
use Rattle.std.specs.Int.{IsPowerOfTwo}
use Rattle.bitmap_kind.specs.declared.bitmaps.Rule.TheVariants.{AtLeast, AtMost}
use Rattle.sampling.specs.Sample.{sample_of, greater_quotient_up}
use Rattle.sampling.proofs.Powers.{highest_among_power, power_from_power}
use Rattle.sampling.proofs.sample.each_sample_is_a_power.Goals as goal

pub returns : goal.returns
returns c source wanted rule = elim rule as (λ r. IsPowerOfTwo (sample_of source wanted r)) [
  | AtLeast ↦ let f = min (source.1 / wanted.1) (source.0 / wanted.0) in highest_among_power f f
  | AtMost ↦ power_from_power (greater_quotient_up source.1 wanted.1 source.0 wanted.0)
]
