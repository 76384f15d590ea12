-- The size of the target, and the place in the source that each of its pixels comes from.
-- A source of w by h, and wanted are W by H. What fit, crop and inside keep of a picture is Glide's
-- (TransformationUtils); which way a half is rounded, and the place of a pixel, are this project's own.
use Rattle.std.specs.Prelude.{ℕ, ◌+◌, ◌-◌, ◌*◌, ◌/◌, nat_le, nat_lt, max, Bool, ◌&&◌, if◌then◌else◌}
use Rattle.bitmap_kind.specs.declared.bitmaps.Transform.{Transform}
use Rattle.bitmap_kind.specs.declared.bitmaps.Transform.TheVariants.{Nothing, Fit, Crop, Inside}

-- The whole source at one scale, in the wanted box, with one side that of the box: Glide's fitCenter.
-- The box's width decides where W / w is at most H / h. The other side is rounded, halves up, and at least 1.
abbrev pub fitted : ℕ → ℕ → ℕ → ℕ → ℕ × ℕ
fitted w h W H = if nat_le (W * h) (H * w)
    then (W, max 1 ((2 * h * W + w) / (2 * w)))
    else (max 1 ((2 * w * H + h) / (2 * h)), H)

-- Glide's centerInside leaves a source that lies in the box, and fits any other.
abbrev pub lies_inside : ℕ → ℕ → ℕ → ℕ → Bool
lies_inside w h W H = nat_le w W && nat_le h H

-- the size of what each transform makes
abbrev pub target_size : ℕ → ℕ → Transform → ℕ → ℕ → ℕ × ℕ
target_size w h Nothing W H = (w, h)
target_size w h Fit W H = fitted w h W H
target_size w h Crop W H = (W, H)
target_size w h Inside W H = if lies_inside w h W H then (w, h) else fitted w h W H

-- Of a line of `from` pixels that is scaled to `to` ones, the pixel under the middle of the pixel k.
abbrev pub scaled_place : ℕ → ℕ → ℕ → ℕ
scaled_place from to k = ((2 * k + 1) * from) / (2 * to)

-- Of a line of `from` pixels that is scaled as `across` ones become `to`, the middle `wanted` pixels are
-- kept: Glide's centerCrop. The middle of the pixel k is k + 1/2 - wanted/2 after that of the line, and
-- so its place is ((2 * k + 1 - wanted) * across + from * to) / (2 * to). Written with the one
-- subtraction last, nothing passes below 0, since wanted * across is at most from * to where the line is
-- too long.
abbrev pub cropped_place : ℕ → ℕ → ℕ → ℕ → ℕ → ℕ
cropped_place from across wanted to k = ((2 * k + 1) * across + from * to - wanted * across) / (2 * to)

-- A source that is wider in shape than the box loses columns, and any other one rows.
abbrev pub is_wider : ℕ → ℕ → ℕ → ℕ → Bool
is_wider w h W H = nat_lt (W * h) (w * H)

-- the source's column of a column of the target
abbrev pub source_column : ℕ → ℕ → Transform → ℕ → ℕ → ℕ → ℕ
source_column w h Nothing W H x = x
source_column w h Fit W H x = scaled_place w (fitted w h W H).0 x
source_column w h Crop W H x = if is_wider w h W H then cropped_place w h W H x else scaled_place w W x
source_column w h Inside W H x = if lies_inside w h W H then x else scaled_place w (fitted w h W H).0 x

-- the source's row of a row of the target
abbrev pub source_row : ℕ → ℕ → Transform → ℕ → ℕ → ℕ → ℕ
source_row w h Nothing W H y = y
source_row w h Fit W H y = scaled_place h (fitted w h W H).1 y
source_row w h Crop W H y = if is_wider w h W H then scaled_place h H y else cropped_place h w H W y
source_row w h Inside W H y = if lies_inside w h W H then y else scaled_place h (fitted w h W H).1 y
