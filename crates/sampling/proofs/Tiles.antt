-- How blocks lie along a side.
use Rattle.std.proofs.Common.{◌≡◌, ℕ, ◌+◌, ◌*◌, ◌/◌, ◌<◌, ◌≤◌, zero, suc, min, ap, inl, inr, refl, arith}
use Rattle.std.proofs.Math.Nat.{mul-div-le, lt-mul-div-succ, mul-le-mul_left, div-eq_of_lt}
use Rattle.std.proofs.lemmas.Nat.{le-div}
use Rattle.std.proofs.lemmas.Bool.{cases_lt}
use Rattle.sampling.specs.Sampled.{sampled_side, block_side}

-- blocks of this length fill a side but for less than one
pub record IsTiled (side sample size blocks : ℕ) : Type 0 where
  pub some : 0 < size
  pub within : size ≤ side
  pub fits : size * blocks ≤ side
  pub most : side < size * (blocks + 1)
  pub start : (y : ℕ) → y < blocks → sample * y ≡ size * y
  pub begun : (y p : ℕ) → size * y ≤ p → p < side → sample * y ≡ size * y
  pub block : (y : ℕ) → y < blocks → block_side side sample (sample * y) ≡ size

same_first : (a b y : ℕ) → y ≡ 0 → a * y ≡ b * y
same_first a b y none = let first = ap (λ z. a * z) none in let second = ap (λ z. b * z) none in omega arith

first_only : (side y p : ℕ) → side * y ≤ p → p < side → y ≡ 0
first_only side zero p low high = refl
first_only side (suc y) p low high = let e : side * suc y ≡ side * y + side = omega arith in absurd (omega arith)

one_block : (side sample : ℕ) → 1 ≤ side → side < sample → IsTiled side sample side 1
one_block side sample some less = record {
  some = some;
  within = omega arith;
  fits = omega arith;
  most = omega arith;
  start = λ y below. same_first sample side y (omega arith);
  begun = λ y p low high. same_first sample side y (first_only side y p low high);
  block = λ y below. let e = same_first sample 0 y (omega arith) in omega arith;
}

whole_blocks : (side sample blocks : ℕ) → 1 ≤ sample → sample ≤ side → sample * blocks ≤ side → side < sample * (blocks + 1) → IsTiled side sample sample blocks
whole_blocks side sample blocks some less fits most = record {
  some = some;
  within = less;
  fits = fits;
  most = most;
  start = λ y below. refl;
  begun = λ y p low high. refl;
  block = λ y below. let next : y + 1 ≤ blocks = omega arith in let grown = mul-le-mul_left sample next in omega arith;
}

pub tiled : (side sample : ℕ) → 1 ≤ side → 1 ≤ sample → IsTiled side sample (min sample side) (sampled_side side sample)
tiled side sample some sample_some = elim (cases_lt side sample) [
  | inl less ↦
      let size : min sample side ≡ side = omega arith in
      let none = div-eq_of_lt less in
      let one : sampled_side side sample ≡ 1 = omega arith in
      rw (size, one) (one_block side sample some less)
  | inr more ↦
      let size : min sample side ≡ sample = omega arith in
      let first = le-div 1 side sample sample_some (omega arith) in
      let blocks : sampled_side side sample ≡ side / sample = omega arith in
      rw (size, blocks) (whole_blocks side sample (side / sample) sample_some more (mul-div-le side sample) (lt-mul-div-succ side sample_some))
]
