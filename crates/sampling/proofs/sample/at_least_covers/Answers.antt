use Rattle.std.proofs.Common.{◌*◌, ◌/◌, ◌<◌, min, inl, inr, arith}
use Rattle.std.proofs.lemmas.Bool.{cases_lt}
use Rattle.sampling.specs.Sample.{highest_power}
use Rattle.sampling.proofs.Powers.{highest_among-le, highest_power_above, highest_power_positive, quotients_turned, quotients_turned_below}
use Rattle.sampling.proofs.sample.at_least_covers.Goals as goal

pub returns-clause-covers : goal.returns-clause-covers
returns-clause-covers c source wanted sides wanted_sides source_covers =
    let f = min (source.1 / wanted.1) (source.0 / wanted.0) in
    let wide = quotients_turned source.0 1 wanted.0 (omega arith) wanted_sides.wide in
    let high = quotients_turned source.1 1 wanted.1 (omega arith) wanted_sides.high in
    let some : 0 < f = omega (arith, wide (omega (arith, source_covers.wide)), high (omega (arith, source_covers.high))) in
    let le = highest_among-le f f some in
    let sample_some = highest_power_positive f in
    record {
      wide = omega (arith, quotients_turned source.0 wanted.0 (highest_power f) wanted_sides.wide sample_some (omega arith));
      high = omega (arith, quotients_turned source.1 wanted.1 (highest_power f) wanted_sides.high sample_some (omega arith));
    }

pub returns-clause-highest : goal.returns-clause-highest
returns-clause-highest c source wanted sides wanted_sides =
    let f = min (source.1 / wanted.1) (source.0 / wanted.0) in
    let above = highest_power_above f in
    elim (cases_lt (source.0 / wanted.0) (2 * highest_power f)) [
      | inl below ↦ inl (quotients_turned_below source.0 wanted.0 (2 * highest_power f) wanted_sides.wide (omega arith) below)
      | inr not ↦ inr (quotients_turned_below source.1 wanted.1 (2 * highest_power f) wanted_sides.high (omega arith) (omega arith))
    ]
