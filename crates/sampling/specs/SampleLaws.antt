-- What a sample is for, in terms of the sides that it gives. Glide's DownsampleStrategy says so of
-- AT_LEAST and AT_MOST in words; that it holds of block means and of every source is this project's own
-- law.
use Rattle.std.specs.Prelude.{◌≡◌, ℕ, ◌*◌, ◌/◌, ◌<◌, ◌≤◌, ◌⊎◌, List, length}
use Rattle.std.specs.Int.{IsPowerOfTwo}
use Rattle.bitmap_kind.specs.declared.bitmaps.Rule.{Rule}
use Rattle.bitmap_kind.specs.declared.bitmaps.Rule.TheVariants.{AtLeast, AtMost}
use Rattle.sampling.specs.Sample.{sample_of, IsSize}
use Rattle.sampling.specs.Sampled.{sampled_side, sampled_picture}

-- the sampled sides of a source under the sample that a rule gives
abbrev pub sampled_size : (source wanted : ℕ × ℕ) → Rule → ℕ × ℕ
sampled_size source wanted rule =
    let sample = sample_of source wanted rule in
    (sampled_side source.0 sample, sampled_side source.1 sample)

-- neither side of the one is below that of the other
pub record Covers (size other : ℕ × ℕ) : Type 0 where
  pub wide : other.0 ≤ size.0
  pub high : other.1 ≤ size.1

-- each sample is a power of two, also where no size has such sides
abbrev pub EachSampleIsAPower : Type 0
EachSampleIsAPower = (source wanted : ℕ × ℕ) (rule : Rule) → IsPowerOfTwo (sample_of source wanted rule)

-- Under sample 1 each block is one pixel, and so the sampled picture is the picture.
abbrev pub OneKeepsThePicture : Type 0
OneKeepsThePicture = (width height : ℕ) (pixels : List ℕ) → 1 ≤ width → 1 ≤ height
    → length pixels ≡ 4 * (width * height) → sampled_picture width height 1 pixels ≡ pixels

-- the sampled size covers the wanted one where the source does
abbrev pub AtLeastCovers : Type 0
AtLeastCovers = (source wanted : ℕ × ℕ) → IsSize source → IsSize wanted → Covers source wanted
    → Covers (sampled_size source wanted AtLeast) wanted

-- and under twice the sample some side has no longer as many blocks as the wanted side has pixels
abbrev pub AtLeastIsHighest : Type 0
AtLeastIsHighest = (source wanted : ℕ × ℕ) → IsSize source → IsSize wanted
    → (source.0 / (2 * sample_of source wanted AtLeast) < wanted.0)
    ⊎ (source.1 / (2 * sample_of source wanted AtLeast) < wanted.1)

-- the wanted size covers the sampled one
abbrev pub AtMostIsCovered : Type 0
AtMostIsCovered = (source wanted : ℕ × ℕ) → IsSize source → IsSize wanted
    → Covers wanted (sampled_size source wanted AtMost)
