use Rattle.std.proofs.Common.{◌≤◌, arith}
use Rattle.std.specs.Int.{div_ceil}
use Rattle.sampling.specs.Sample.{power_from, greater_quotient_up}
use Rattle.sampling.proofs.Powers.{le-power_from, greater_quotient_up_is, quotient_within}
use Rattle.sampling.proofs.sample.at_most_is_covered.Goals as goal

pub returns : goal.returns
returns c source wanted sides wanted_sides =
    let m = greater_quotient_up source.1 wanted.1 source.0 wanted.0 in
    let greater = greater_quotient_up_is source.1 wanted.1 source.0 wanted.0 wanted_sides.high wanted_sides.wide in
    let le = le-power_from m in
    let wide : div_ceil source.0 wanted.0 ≤ power_from m = omega arith in
    let high : div_ceil source.1 wanted.1 ≤ power_from m = omega arith in
    record {
      wide = omega (arith, quotient_within source.0 wanted.0 (power_from m) sides.wide wanted_sides.wide wide, wanted_sides.wide);
      high = omega (arith, quotient_within source.1 wanted.1 (power_from m) sides.high wanted_sides.high high, wanted_sides.high);
    }
