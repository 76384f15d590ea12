-- Boxes of pixels, and pictures that fill theirs: the words of the laws on Glide's fit, crop and inside.
-- They are this project's own.
use Rattle.std.specs.Prelude.{ℕ, ◌+◌, ◌≤◌, ◌≡◌, ◌⊎◌, length}
use Rattle.bitmap_kind.specs.Picture.{Picture, stored_size}

-- both sides are at least 1
pub record AreSides (width height : ℕ) : Type 0 where
  pub wide : 1 ≤ width
  pub high : 1 ≤ height

-- a size that has one side of a box, and is not longer in the other
abbrev pub TouchesBox : ℕ × ℕ → ℕ → ℕ → Type 0
TouchesBox size width height = ((size.0 ≡ width) × (size.1 ≤ height))
    ⊎ ((size.1 ≡ height) × (size.0 ≤ width))

-- a picture that has all its bytes, as each bitmap's has
pub record IsWhole (picture : Picture) : Type 0 where
  pub len : length picture.bytes ≡ stored_size picture.width picture.height picture.config

-- two places of a line of which one is as far from its beginning as the other from its end, or a pixel
-- further
abbrev pub AreMirrored : ℕ → ℕ → ℕ → Type 0
AreMirrored a b side = (a + b + 1 ≡ side) ⊎ (a + b ≡ side)
