use Rattle.std.proofs.Common.{arith}
use Rattle.decimal.proofs.Values.{all_lead}
use Rattle.decimal.proofs.digits.value_of.Goals as goal

pub returns-then-value : goal.returns-then-value
returns-then-value c = omega (arith, c.leading_digits-value.ensures.value, c.if-value.true, all_lead c.args.digits.now c.requires)

pub returns-else-value : goal.returns-else-value
returns-else-value c = omega (arith, c.leading_digits-value.ensures.value, all_lead c.args.digits.now c.requires)
