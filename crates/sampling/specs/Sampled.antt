-- The sampled picture: each pixel is the mean of a block of the source's pixels. Glide's Downsampler
-- gives the sample alone; blocks, their means, the cut at the edge and the rounding are this project's
-- own. Pixels are a flat list of numbers, four a pixel (red, green, blue, alpha), rows from the top.
use Rattle.std.specs.Prelude.{ℕ, ◌+◌, ◌-◌, ◌*◌, ◌/◌, List, [], ◌∷◌, length, map, sum, min, max, slice_index}
use Rattle.std.specs.List.{flat_map, range_with_len}

-- how long a sampled side is: whole blocks alone count, but there is always one
abbrev pub sampled_side : (side sample : ℕ) → ℕ
sampled_side side sample = max 1 (side / sample)

-- how many places of a side a block takes that begins at `from`: the sample, cut at the edge
abbrev pub block_side : (side sample from : ℕ) → ℕ
block_side side sample from = min sample (side - from)

-- one channel (0 red, 1 green, 2 blue, 3 alpha) of the pixel in this column and row
abbrev pub channel_at : (width : ℕ) (pixels : List ℕ) (column row channel : ℕ) → ℕ
channel_at width pixels column row channel = slice_index pixels (4 * (row * width + column) + channel)

-- one channel of the pixels of a block, which has its first pixel at (left, top), row by row
abbrev pub block_at : (width : ℕ) (pixels : List ℕ) (left columns top rows channel : ℕ) → List ℕ
block_at width pixels left columns top rows channel =
    flat_map (λ row. map (λ column. channel_at width pixels column row channel)
    (range_with_len left columns)) (range_with_len top rows)

-- the mean, halves rounded up
abbrev pub mean : List ℕ → ℕ
mean numbers = (sum numbers + length numbers / 2) / length numbers

-- one channel of pixel (x, y) of the sampled picture
abbrev pub sampled_channel : (width height sample : ℕ) (pixels : List ℕ) (x y channel : ℕ) → ℕ
sampled_channel width height sample pixels x y channel =
    mean (block_at width pixels (sample * x) (block_side width sample (sample * x)) (sample * y)
    (block_side height sample (sample * y)) channel)

-- pixel (x, y) of the sampled picture
abbrev pub sampled_pixel : (width height sample : ℕ) (pixels : List ℕ) (x y : ℕ) → List ℕ
sampled_pixel width height sample pixels x y =
    map (sampled_channel width height sample pixels x y) (0 ∷ 1 ∷ 2 ∷ 3 ∷ [])

-- row y of the sampled picture
abbrev pub sampled_row : (width height sample : ℕ) (pixels : List ℕ) (y : ℕ) → List ℕ
sampled_row width height sample pixels y =
    flat_map (λ x. sampled_pixel width height sample pixels x y)
    (range_with_len 0 (sampled_side width sample))

-- the sampled picture of a picture of this width and height under a sample
abbrev pub sampled_picture : (width height sample : ℕ) (pixels : List ℕ) → List ℕ
sampled_picture width height sample pixels =
    flat_map (sampled_row width height sample pixels) (range_with_len 0 (sampled_side height sample))
