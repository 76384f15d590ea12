-- The range of digits.
use Rattle.std.proofs.Common.{◌≡◌, ℕ, true, rules, tests}
use Rattle.std.specs.Int.{IsInRange}
use Rattle.ppm_read.specs.Number.{is_digit}

pub in_range : (c : ℕ) → is_digit c ≡ true → IsInRange 48 57 c
in_range c e = search (rules, tests)
