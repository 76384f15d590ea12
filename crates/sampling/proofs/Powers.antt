-- Powers of two round a number, and quotients rounded up.
use Rattle.std.proofs.Common.{◌≡◌, ℕ, ◌+◌, ◌*◌, ◌/◌, ◌^◌, ◌<◌, ◌≤◌, max, zero, suc, sym, ap, ◌∙◌, inl, inr, refl, subst, arith}
use Rattle.std.proofs.Math.Nat.{pow-le-pow_right, mul-le-mul_right, lt_of_mul-lt-mul_right, le_of_mul-le-mul_right, add-mul, mul_comm, pow-suc, le-div_iff_mul-le, div-lt_iff_lt-mul}
use Rattle.std.proofs.lemmas.Bool.{cases_lt, cases_eq, lt-leb, le-leb, eq-eqb, ne_eqb}
use Rattle.std.proofs.lemmas.Nat.{pow_pos}
use Rattle.std.proofs.lemmas.Grind.{div_ceil_times}
use Rattle.std.specs.Int.{div_ceil, IsPowerOfTwo}
use Rattle.sampling.specs.Sample.{highest_among, highest_power, power_from, greater_quotient_up}

-- an exponent is below its power of two
pub exponent_below : (k : ℕ) → k < 2 ^ k
exponent_below zero = omega arith
exponent_below (suc k) = let e = pow-suc 2 k in omega (arith, exponent_below k, e)

-- the power that is not above n while its double is, among enough of them
pub highest_among_is : (m n k : ℕ) → 2 ^ k ≤ n → n < 2 * 2 ^ k → k ≤ m → highest_among m n ≡ 2 ^ k
highest_among_is zero n k low high le = let none : k ≡ 0 = omega arith in ap (λ j. 2 ^ j) (sym none)
highest_among_is (suc m) n k low high le = elim (cases_lt n (2 ^ suc m)) [
  | inl above ↦
      let less : k ≤ m = elim (cases_lt m k) [
        | inl same ↦ let top : k ≡ suc m = omega arith in let e = ap (λ j. 2 ^ j) top in absurd (omega arith)
        | inr fine ↦ fine
      ] in
      rw (lt-leb (2 ^ suc m) n above) (highest_among_is m n k low high less)
  | inr below ↦
      let top : k ≡ suc m = elim (cases_lt k (suc m)) [
        | inl less ↦ let step = pow-le-pow_right {n = 2} (omega arith) {i = suc k} {j = suc m} less in let e = pow-suc 2 k in absurd (omega arith)
        | inr fine ↦ omega arith
      ] in
      rw (le-leb (2 ^ suc m) n below) (ap (λ j. 2 ^ j) (sym top))
]

pub highest_power_is : (n k : ℕ) → 2 ^ k ≤ n → n < 2 * 2 ^ k → highest_power n ≡ 2 ^ k
highest_power_is n k low high = highest_among_is n n k low high (omega (arith, exponent_below k))

-- the least power that is not below n, where it is above n
power_above : (n p k : ℕ) → 0 < n → p ≡ 2 ^ k → n < p → p / 2 < max 1 n → power_from n ≡ p
power_above n p zero some power above least = absurd (omega arith)
power_above n p (suc k) some power above least =
    let double = pow-suc 2 k in
    let highest : highest_power n ≡ 2 ^ k = highest_power_is n k (omega arith) (omega arith) in
    let differ : highest_power n ≡ n → ⊥ = λ e. omega arith in
    rw (ne_eqb (highest_power n) n differ) (omega arith)

-- the least power that is not below n
pub power_from_is : (n p : ℕ) → 0 < n → IsPowerOfTwo p → n ≤ p → p / 2 < max 1 n → power_from n ≡ p
power_from_is n p some (k, power) above least = elim (cases_eq n p) [
  | inl same ↦
      let highest : highest_power n ≡ n = highest_power_is n k (omega arith) (omega (arith, pow_pos k)) ∙ sym (same ∙ power) in
      rw (eq-eqb (highest_power n) n highest) same
  | inr other ↦ power_above n p k some power (omega arith) least
]

-- a / b rounded up is the least number whose product with b is not below a
pub div_ceil_least : (a b q : ℕ) → 0 < b → a ≤ q * b → div_ceil a b ≤ q
div_ceil_least a b q some fits =
    let bounds = div_ceil_times a b some in
    let e = add-mul q 1 b in
    let below : div_ceil a b * b < (q + 1) * b = omega (arith, bounds.1) in
    let less = lt_of_mul-lt-mul_right b below in
    omega arith

-- rounding up keeps the order of the exact quotients
pub div_ceil_order : (a b c d : ℕ) → 0 < b → 0 < d → a * d ≤ c * b → div_ceil a b ≤ div_ceil c d
div_ceil_order a b c d some_b some_d order =
    let upper : c ≤ div_ceil c d * d = (div_ceil_times c d some_d).0 in
    let grown = mul-le-mul_right b upper in
    let turned : a * d ≤ div_ceil c d * b * d = omega arith in
    div_ceil_least a b (div_ceil c d) some_b (le_of_mul-le-mul_right turned some_d)

-- the greater exact quotient, rounded up, is the greater of the two rounded up
pub greater_quotient_up_is : (a b c d : ℕ) → 0 < b → 0 < d → max (div_ceil a b) (div_ceil c d) ≡ greater_quotient_up a b c d
greater_quotient_up_is a b c d some_b some_d = elim (cases_lt (c * b) (a * d)) [
  | inl less ↦ let order = div_ceil_order c d a b some_d some_b (omega arith) in rw (lt-leb (a * d) (c * b) less) (omega arith)
  | inr more ↦ let order = div_ceil_order a b c d some_b some_d more in rw (le-leb (a * d) (c * b) more) (omega arith)
]

-- a positive number's quotient, rounded up, is positive
pub div_ceil_positive : (a b : ℕ) → 0 < a → 0 < b → 0 < div_ceil a b
div_ceil_positive a b some some_b = elim (cases_eq (div_ceil a b) 0) [
  | inl none ↦ let upper : a ≤ div_ceil a b * b = (div_ceil_times a b some_b).0 in let e = ap (λ q. q * b) none in absurd (omega arith)
  | inr other ↦ omega arith
]

-- what is chosen is a power
pub highest_among_power : (m n : ℕ) → IsPowerOfTwo (highest_among m n)
highest_among_power zero n = (0, refl)
highest_among_power (suc m) n = elim (cases_lt n (2 ^ suc m)) [
  | inl above ↦ rw (lt-leb (2 ^ suc m) n above) (highest_among_power m n)
  | inr below ↦ rw (le-leb (2 ^ suc m) n below) (suc m, refl)
]

-- not above the number
pub highest_among-le : (m n : ℕ) → 0 < n → highest_among m n ≤ n
highest_among-le zero n some = omega arith
highest_among-le (suc m) n some = elim (cases_lt n (2 ^ suc m)) [
  | inl above ↦ rw (lt-leb (2 ^ suc m) n above) (highest_among-le m n some)
  | inr below ↦ rw (le-leb (2 ^ suc m) n below) below
]

-- and its double is above it, where there are enough of them
pub highest_among_above : (m n : ℕ) → n < 2 * 2 ^ m → n < 2 * highest_among m n
highest_among_above zero n high = omega arith
highest_among_above (suc m) n high = elim (cases_lt n (2 ^ suc m)) [
  | inl above ↦ let e = pow-suc 2 m in rw (lt-leb (2 ^ suc m) n above) (highest_among_above m n (omega arith))
  | inr below ↦ rw (le-leb (2 ^ suc m) n below) high
]

pub highest_power_above : (n : ℕ) → n < 2 * highest_power n
highest_power_above n = highest_among_above n n (omega (arith, exponent_below n))

pub highest_power_positive : (n : ℕ) → 0 < highest_power n
highest_power_positive n = omega (arith, highest_power_above n)

double : (n : ℕ) → IsPowerOfTwo (highest_power n) → IsPowerOfTwo (2 * highest_power n)
double n (k, power) = let e = pow-suc 2 k in (suc k, omega arith)

pub power_from_power : (n : ℕ) → IsPowerOfTwo (power_from n)
power_from_power n = elim (cases_eq (highest_power n) n) [
  | inl same ↦ rw (eq-eqb (highest_power n) n same) (let P : ℕ → Type 0 = IsPowerOfTwo in subst P same (highest_among_power n n))
  | inr other ↦ rw (ne_eqb (highest_power n) n other) (double n (highest_among_power n n))
]

pub le-power_from : (n : ℕ) → n ≤ power_from n
le-power_from n = elim (cases_eq (highest_power n) n) [
  | inl same ↦ rw (eq-eqb (highest_power n) n same) (omega arith)
  | inr other ↦ rw (ne_eqb (highest_power n) n other) (omega (arith, highest_power_above n))
]

-- a divisor and a quotient change places
pub quotients_turned : (a b c : ℕ) → 0 < b → 0 < c → c ≤ a / b → b ≤ a / c
quotients_turned a b c some_b some_c fits = let e = mul_comm b c in (le-div_iff_mul-le some_c).1 (omega (arith, (le-div_iff_mul-le some_b).0 fits))

pub quotients_turned_below : (a b c : ℕ) → 0 < b → 0 < c → a / b < c → a / c < b
quotients_turned_below a b c some_b some_c below = let e = mul_comm b c in (div-lt_iff_lt-mul some_c).1 (omega (arith, (div-lt_iff_lt-mul some_b).0 below))

-- a quotient by no less than a / b, rounded up, is not above b
pub quotient_within : (a b c : ℕ) → 0 < a → 0 < b → div_ceil a b ≤ c → a / c ≤ b
quotient_within a b c some some_b le =
    let upper : a ≤ div_ceil a b * b = (div_ceil_times a b some_b).0 in
    let grown = mul-le-mul_right b le in
    let some_c : 0 < c = omega (arith, div_ceil_positive a b some some_b) in
    let e = mul_comm c b in
    let wide = add-mul b 1 c in
    let below : a / c < b + 1 = (div-lt_iff_lt-mul some_c).1 (omega arith) in
    omega arith
