use Rattle.std.proofs.Common.{◌+◌, ◌*◌, sym, ap, ◌∙◌}
use Rattle.std.specs.Str.Parse.{digits_value}
use Rattle.std.proofs.lemmas.Int.Digits.{digits_value_more}
use Rattle.std.proofs.lemmas.List.{take_all}
use Rattle.journal_lines.proofs.Reading.{digit_at, too_large, small_enough}
use Rattle.journal_lines.proofs.numbers.digits_value.Goals as goal

pub digit_value-requires : goal.digit_value-requires
digit_value-requires c = digit_at c.args.digits.now c.loop-digit.digit-index c.loop-digit-test.true c.requires

pub returns-then-value-ge-LENGTHS_BELOW : goal.returns-then-value-ge-LENGTHS_BELOW
returns-then-value-ge-LENGTHS_BELOW c =
    too_large c.args.digits.now (c.loop-digit.digit-index + 1) (c.loop-digit.value * 10 + c.digit_value.result)
    ((λ k. c.loop-digit.invariant.value k * 10 + c.digit_value.ensures k) ∙ sym (digits_value_more 10 c.args.digits.now c.loop-digit.digit-index c.loop-digit-test.true))
    c.if-value-ge-LENGTHS_BELOW.true

pub loop-digit-preserved : goal.loop-digit-preserved
loop-digit-preserved c = record {
  value = (λ k. c.loop-digit.invariant.value k * 10 + c.digit_value.ensures k) ∙ sym (digits_value_more 10 c.args.digits.now c.loop-digit.digit-index c.loop-digit-test.true);
  small = c.if-value-ge-LENGTHS_BELOW.false;
}

pub returns : goal.returns
returns c = small_enough c.args.digits.now c.loop-digit.value (c.loop-digit.invariant.value ∙ ap (digits_value 10) (take_all c.loop-digit.digit-index c.args.digits.now c.loop-digit-test.false)) c.loop-digit.invariant.small
