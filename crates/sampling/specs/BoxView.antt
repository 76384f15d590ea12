-- The fields that sampled rows are kept in, and what always holds of them.
use Rattle.std.specs.Prelude.{◌≡◌, ℕ, ◌+◌, ◌-◌, ◌*◌, ◌/◌, ◌<◌, ◌≤◌, Bool, true, false, length, min, slice_index}
use Rattle.sampling.specs.Sampled.{sampled_side}
use Rattle.sampling.specs.SumsView.{lanes_of, limit_of}
use Rattle.sampling.specs.BoxValue.{BoxValue}
use Rattle.sampling.specs.declared.box_rows.BoxRows.TheInside.{Inside}

-- the fields, as contracts see them
abbrev pub value_of : Inside → BoxValue
value_of b = record {
  width = b.width;
  height = b.height;
  sample = b.sample;
  pushed = b.pushed;
  given = b.given;
  full = b.full;
  sums = lanes_of b.sums;
}

-- where the rows stand: each row of blocks has this many rows of the source
pub record IsPlaced (rows height side pushed given : ℕ) (full : Bool) : Type 0 where
  pub pushed_most : pushed ≤ height
  pub given_most : given ≤ side
  pub begun : rows * given ≤ pushed
  pub waits : full ≡ true → (given < side) × (pushed ≡ rows * (given + 1))
  pub open_ : full ≡ false → pushed < rows * (given + 1)

-- the sides, where the rows stand, four sums a block, what the sums are at most, and that whole blocks
-- have room in them
pub record IsBoxRows (b : Inside) : Type 0 where
  pub wide : 1 ≤ b.width
  pub high : 1 ≤ b.height
  pub sampled : 1 ≤ b.sample
  pub placed : IsPlaced (min b.sample b.height) b.height
      (sampled_side b.height b.sample) b.pushed b.given b.full
  pub lanes : length (lanes_of b.sums) ≡ 4 * sampled_side b.width b.sample
  pub bound : (k : ℕ) → slice_index (lanes_of b.sums) k
      ≤ 255 * (min b.sample b.width * (b.pushed - min b.sample b.height * b.given))
  pub room : 255 * (min b.sample b.width * min b.sample b.height)
      + min b.sample b.width * min b.sample b.height / 2 < limit_of b.sums
