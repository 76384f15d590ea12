use Rattle.std.proofs.Common.{◌≡◌, ℕ, ◌<◌, ◌^◌, true, take, get_or}
use Rattle.std.specs.Char.{is_ascii_digit}
use Rattle.std.specs.Str.Parse.{digits_value}
use Rattle.decimal.proofs.digits.leading_digits.Given as goal

abbrev pub invariant-loop-at : goal.invariant-loop-at
invariant-loop-at l =
    ((k : ℕ) → k < l.at → is_ascii_digit (get_or l.text k 0) ≡ true)
    × (l.value ≡ digits_value 10 (take l.at l.text)) × (l.value < 2 ^ 32)
