-- Which sample a source takes to come near a wanted size, as Glide's Downsampler does. Sizes are a width
-- and a height.
use Rattle.std.specs.Prelude.{ℕ, ◌*◌, ◌/◌, ◌^◌, ◌≤◌, ◌==◌, nat_le, min, if◌then◌else◌, zero, suc}
use Rattle.std.specs.Int.{div_ceil}
use Rattle.bitmap_kind.specs.declared.bitmaps.Rule.{Rule}
use Rattle.bitmap_kind.specs.declared.bitmaps.Rule.TheVariants.{AtLeast, AtMost}

-- the highest of 2 ^ 0 to 2 ^ k that is not above n, or 1
abbrev pub highest_among : ℕ → ℕ → ℕ
highest_among zero n = 1
highest_among (suc k) n = if nat_le (2 ^ suc k) n then 2 ^ suc k else highest_among k n

-- the highest power of two not above n, and 1 where n is 0 (each n is below 2 ^ n)
abbrev pub highest_power : ℕ → ℕ
highest_power n = highest_among n n

-- the least power of two that is not below n, from the highest that is not above it
abbrev pub power_from : ℕ → ℕ
power_from n = if highest_power n == n then n else 2 * highest_power n

-- a / b rounded up for the greater of the exact quotients a / b and c / d
abbrev pub greater_quotient_up : ℕ → ℕ → ℕ → ℕ → ℕ
greater_quotient_up a b c d = if nat_le (a * d) (c * b) then div_ceil c d else div_ceil a b

-- Glide's Downsampler under its strategies AT_LEAST and AT_MOST: the samples are powers of two.
-- At least: from the lesser of the two whole quotients. At most: from the greater exact quotient, rounded up.
abbrev pub sample_of : (source wanted : ℕ × ℕ) → Rule → ℕ
sample_of source wanted AtLeast = highest_power (min (source.1 / wanted.1) (source.0 / wanted.0))
sample_of source wanted AtMost = power_from (greater_quotient_up source.1 wanted.1 source.0 wanted.0)

-- both sides are at least 1
pub record IsSize (size : ℕ × ℕ) : Type 0 where
  pub wide : 1 ≤ size.0
  pub high : 1 ≤ size.1

-- both sides are at least 1 and at most 2 ^ 31
pub record IsSourceSize (size : ℕ × ℕ) : Type 0 where
  pub wide : 1 ≤ size.0
  pub high : 1 ≤ size.1
  pub wide_most : size.0 ≤ 2147483648
  pub high_most : size.1 ≤ 2147483648
