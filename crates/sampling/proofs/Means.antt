-- Means written one after the other.
use Rattle.std.proofs.Common.{◌≡◌, ℕ, ◌+◌, ◌/◌, ◌<◌, ◌≤◌, List, length, get_or}

-- the means of the lanes before k are written, and these lanes are cleared
pub record MeansSoFar (old now into : List ℕ) (count k : ℕ) : Type 0 where
  pub size : length now ≡ length old
  pub means : (j : ℕ) → j < k → get_or into j 0 ≡ (get_or old j 0 + count / 2) / count
  pub cleared : (j : ℕ) → j < k → get_or now j 0 ≡ 0
  pub rest : (j : ℕ) → k ≤ j → get_or now j 0 ≡ get_or old j 0
