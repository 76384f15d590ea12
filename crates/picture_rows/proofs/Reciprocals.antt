-- A division as a multiplication by a reciprocal, of which k stands for 1.
use Rattle.std.proofs.Common.{◌≡◌, ℕ, ◌+◌, ◌-◌, ◌*◌, ◌/◌, ◌^◌, ◌<◌, ◌≤◌, ap, ◌∙◌, arith}
use Rattle.std.proofs.Math.Nat.{mul-le-mul_left, mul-le-mul_right, div-mul-le_self, lt-div-mul-add, lt_of_mul-lt-mul_right}
use Rattle.std.proofs.lemmas.Nat.{div-mul-add, mul-le}

-- a quotient by the bounds of its multiples
quotient_is : (a q k : ℕ) → q * k ≤ a → a < q * k + k → a / k ≡ q
quotient_is a q k low high =
    let whole : a ≡ q * k + (a - q * k) = omega arith in
    ap (λ n. n / k) whole ∙ div-mul-add q k (a - q * k) (omega arith)

product_low : (n m k q e : ℕ) → q * m ≤ n → k ≤ e * m + m → q * k ≤ n * (e + 1)
product_low n m k q e a d =
    let one : q * k ≤ q * (e * m + m) = mul-le-mul_left q d in
    let two : q * m * (e + 1) ≤ n * (e + 1) = mul-le-mul_right (e + 1) a in
    let same : q * (e * m + m) ≡ q * m * (e + 1) = omega arith in
    omega (arith, one, two, same)

product_high : (n m k q e : ℕ) → n * m < k → n + 1 ≤ q * m + m → e * m ≤ k → n * (e + 1) < q * k + k
product_high n m k q e small b c =
    let one : n * (e * m) ≤ n * k = mul-le-mul_left n c in
    let two : (n + 1) * k ≤ (q * m + m) * k = mul-le-mul_right k b in
    let left : n * (e + 1) * m ≡ n * (e * m) + n * m = omega arith in
    let right : (q * k + k) * m ≡ (q * m + m) * k = omega arith in
    let middle : (n + 1) * k ≡ n * k + k = omega arith in
    lt_of_mul-lt-mul_right m (omega (arith, one, two, left, right, middle, small))

pub below : (n m k : ℕ) → 0 < m → n * m < k → n * (k / m + 1) < n / m * k + k
below n m k some small = product_high n m k (n / m) (k / m) small (omega (arith, lt-div-mul-add {a = n} {b = m} some)) (div-mul-le_self k m)

pub by_reciprocal : (n m k : ℕ) → 0 < m → n * m < k → n * (k / m + 1) / k ≡ n / m
by_reciprocal n m k some small =
    quotient_is (n * (k / m + 1)) (n / m) k
    (product_low n m k (n / m) (k / m) (div-mul-le_self n m) (omega (arith, lt-div-mul-add {a = k} {b = m} some)))
    (below n m k some small)

sum : (r v h : ℕ) → 255 * r * v + h * r ≡ (255 * v + h) * r
sum r v h = omega arith

-- a sample before it is divided: below 256 times its maximum
pub full_small : (v m : ℕ) → 1 ≤ m → v ≤ m → m < 65536 → (255 * v + m / 2) * m < 2 ^ 40
full_small v m some le bound =
    let most : (255 * v + m / 2) * m ≤ 16777215 * 65535 = mul-le (255 * v + m / 2) m 16777215 65535 (omega arith) (omega arith) in
    omega (arith, most)

-- a sample is scaled by the reciprocal of its maximum
pub share_is : (v m r n f h : ℕ) → 1 ≤ m → v ≤ m → m < 65536 → n ≡ v → r ≡ 2 ^ 40 / m + 1 → f ≡ 255 * r → h ≡ m / 2 * r → (f * n + h) / 2 ^ 40 ≡ (255 * v + m / 2) / m
share_is v m r n f h some le bound e is factor offset =
    let product : f * n + h ≡ (255 * v + m / 2) * r = (λ i. factor i * e i + offset i) ∙ sum r v (m / 2) in
    ap (λ n. n / 2 ^ 40) (product ∙ ap (λ r. (255 * v + m / 2) * r) is) ∙ by_reciprocal (255 * v + m / 2) m (2 ^ 40) some (full_small v m some le bound)

pub share_fits : (v m : ℕ) → 1 ≤ m → v ≤ m → (255 * v + m / 2) / m < 256
share_fits v m some le =
    let product : (255 * v + m / 2) / m * m < 256 * m = omega (arith, div-mul-le_self (255 * v + m / 2) m) in
    lt_of_mul-lt-mul_right m product
