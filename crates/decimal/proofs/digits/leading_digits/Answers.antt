use Rattle.std.proofs.Common.{◌+◌, length, sym, ◌∙◌, arith}
use Rattle.decimal.proofs.Values.{one_more, ends, value_ends, value_above, digits_on}
use Rattle.decimal.proofs.digits.leading_digits.Goals as goal

pub returns-then-not-is_ascii_digit-clause-count : goal.returns-then-not-is_ascii_digit-clause-count
returns-then-not-is_ascii_digit-clause-count c = sym (ends c.args.text.now c.loop-at.at (omega arith) c.loop-at.invariant.0 (λ lt. sym c.is_ascii_digit.ensures.value ∙ c.if-not-is_ascii_digit.true))

pub returns-then-not-is_ascii_digit-clause-value : goal.returns-then-not-is_ascii_digit-clause-value
returns-then-not-is_ascii_digit-clause-value c =
    let count = ends c.args.text.now c.loop-at.at (omega arith) c.loop-at.invariant.0 (λ lt. sym c.is_ascii_digit.ensures.value ∙ c.if-not-is_ascii_digit.true) in
    value_ends c.args.text.now c.loop-at.at c.loop-at.value count c.loop-at.invariant.2 c.loop-at.invariant.1

pub returns-then-value-clause-value : goal.returns-then-value-clause-value
returns-then-value-clause-value c =
    let digit = sym c.is_ascii_digit.ensures.value ∙ c.if-not-is_ascii_digit.false in
    let step = one_more c.args.text.now c.loop-at.at c.loop-at.value _ c.loop-at-test.true digit c.loop-at.invariant.1 c.from.ensures in
    value_above c.args.text.now (c.loop-at.at + 1) _ (omega arith) (digits_on c.args.text.now c.loop-at.at c.loop-at.invariant.0 digit) step (omega arith)

pub loop-at-preserved : goal.loop-at-preserved
loop-at-preserved c =
    let digit = sym c.is_ascii_digit.ensures.value ∙ c.if-not-is_ascii_digit.false in (
      digits_on c.args.text.now c.loop-at.at c.loop-at.invariant.0 digit,
      one_more c.args.text.now c.loop-at.at c.loop-at.value _ c.loop-at-test.true digit c.loop-at.invariant.1 c.from.ensures,
      omega arith,
    )

pub returns-clause-count : goal.returns-clause-count
returns-clause-count c = sym (ends c.args.text.now (length c.args.text.now) (omega arith) (λ k lt. c.loop-at.invariant.0 k (omega arith)) (λ lt. absurd (omega arith)))

pub returns-clause-value : goal.returns-clause-value
returns-clause-value c =
    let count = ends c.args.text.now c.loop-at.at (omega arith) c.loop-at.invariant.0 (λ lt. absurd (omega arith)) in
    value_ends c.args.text.now c.loop-at.at c.loop-at.value count c.loop-at.invariant.2 c.loop-at.invariant.1
