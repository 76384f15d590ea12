-- What contracts see of rows that are sampled one after the other.
use Rattle.std.specs.Prelude.{◌≡◌, ℕ, ◌+◌, ◌-◌, ◌*◌, ◌<◌, List, Bool, length, sum, slice_index}
use Rattle.sampling.specs.Sampled.{sampled_side, block_side, block_at}

-- the size of the source, the sample, how many rows were pushed, how many sampled rows were given,
-- whether a full row of blocks waits, and the sums of the row of blocks that is filled
pub record BoxValue : Type 0 where
  pub width : ℕ
  pub height : ℕ
  pub sample : ℕ
  pub pushed : ℕ
  pub given : ℕ
  pub full : Bool
  pub sums : List ℕ

-- the first `pushed` rows of the source end with row y of the blocks, which is one of the sampled picture
pub record EndsBlocks (height sample pushed y : ℕ) : Type 0 where
  pub within : y < sampled_side height sample
  pub rows : pushed ≡ sample * y + block_side height sample (sample * y)

-- the rows pushed so far are these pixels: there are as many, and the sums are those of the blocks of the
-- row of blocks that is filled, over the rows of it that were pushed
pub record Holds (rows : BoxValue) (pixels : List ℕ) : Type 0 where
  pub size : length pixels ≡ 4 * (rows.width * rows.pushed)
  pub sums : (x channel : ℕ) → x < sampled_side rows.width rows.sample → channel < 4
      → slice_index rows.sums (4 * x + channel)
      ≡ sum (block_at rows.width pixels (rows.sample * x)
      (block_side rows.width rows.sample (rows.sample * x)) (rows.sample * rows.given)
      (rows.pushed - rows.sample * rows.given) channel)
