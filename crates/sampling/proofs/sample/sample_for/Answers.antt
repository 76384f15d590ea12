use Rattle.std.proofs.Common.{◌≡◌, ◌<◌, sym, ap, ap₂, ◌∙◌, max, arith}
use Rattle.sampling.specs.Sample.{greater_quotient_up, power_from}
use Rattle.sampling.proofs.Powers.{power_from_is, greater_quotient_up_is, div_ceil_positive}
use Rattle.sampling.proofs.sample.sample_for.Goals as goal

pub returns-in-AtMost : goal.returns-in-AtMost
returns-in-AtMost c =
    let source = c.args.source in
    let wanted = c.args.wanted in
    let quotient : c.max-quotient.result ≡ greater_quotient_up source.1 wanted.1 source.0 wanted.0 =
    c.max-quotient.ensures ∙ ap₂ max c.div_ceil.ensures c.div_ceil-in-AtMost.ensures
    ∙ greater_quotient_up_is source.1 wanted.1 source.0 wanted.0 c.requires.wanted.high c.requires.wanted.wide in
    let positive = div_ceil_positive source.1 wanted.1 c.requires.source.high c.requires.wanted.high in
    let power = c.next_power_of_two.ensures in
    let some : 0 < c.max-quotient.result = omega (arith, c.max-quotient.ensures, c.div_ceil.ensures) in
    rw c.in-AtMost.is (sym (ap power_from (sym quotient) ∙ power_from_is c.max-quotient.result c.next_power_of_two.result some power.power power.lower_bound power.upper_bound))
