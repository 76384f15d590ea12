-- Sums of blocks kept in lanes, four a block (red, green, blue, alpha).
use Rattle.std.specs.Prelude.{◌≡◌, ℕ, ◌+◌, ◌*◌, ◌/◌, ◌<◌, List, length, map, sum, slice_index, replicate}
use Rattle.std.specs.List.{range_with_len}

-- the sum of one channel over the pixels of a row from the pixel `left` on
abbrev pub line_sum : (row : List ℕ) (left columns channel : ℕ) → ℕ
line_sum row left columns channel =
    sum (map (λ column. slice_index row (4 * column + channel)) (range_with_len left columns))

-- the four lanes of one block have grown by the sums of these pixels
pub record AddsBlock (old new block : List ℕ) (columns : ℕ) : Type 0 where
  pub size : length new ≡ length old
  pub sums : (channel : ℕ) → channel < 4
      → slice_index new channel ≡ slice_index old channel + line_sum block 0 columns channel

-- the lanes of each block have grown by the sums of its pixels in this row
pub record AddsRow (old new row : List ℕ) (columns blocks : ℕ) : Type 0 where
  pub size : length new ≡ length old
  pub sums : (x channel : ℕ) → x < blocks → channel < 4
      → slice_index new (4 * x + channel)
      ≡ slice_index old (4 * x + channel) + line_sum row (columns * x) columns channel

-- each lane's mean over so many numbers is written, halves rounded up, and the lanes are cleared
pub record GivesMeans (old new into : List ℕ) (count : ℕ) : Type 0 where
  pub means : (k : ℕ) → k < length old → slice_index into k ≡ (slice_index old k + count / 2) / count
  pub cleared : new ≡ replicate (length old) 0
