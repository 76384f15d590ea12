-- Channels by masks, as the code scales them without a division.
use Rattle.std.specs.Prelude.{◌≡◌, ℕ, ◌<◌, ◌≤◌, ◌/◌, ◌^◌, Bool, ◌&&◌, ◌||◌, ◌==◌, nat_lt, bit_and}
use Rattle.std.specs.Int.{w32, trailing_zeros}
use Rattle.picture_rows.specs.Scale.{IsScale}
use Rattle.bmp_read.specs.declared.format.Masks.{Masks}
use Rattle.bmp_read.specs.declared.masked.ChannelScale.{ChannelScale}
use Rattle.bmp_read.specs.declared.masked.ChannelScales.{ChannelScales}
use Rattle.bmp_read.specs.Header.{moved_down}

-- the mask has at most 16 bits
abbrev pub is_narrow : ℕ → Bool
is_narrow mask = mask == 0 || nat_lt (moved_down mask mask) 65536

-- all four masks have
abbrev pub are_narrow : Masks → Bool
are_narrow masks = is_narrow masks.red && is_narrow masks.green && is_narrow masks.blue
    && is_narrow masks.alpha

-- a masked value is shifted down to a sample of the scale's maximum
pub record IsChannelScale (by : ChannelScale) : Type 0 where
  pub scale : IsScale by.scale
  pub short : by.shift < 32
  pub within : (value : ℕ) → value < 2 ^ 32 → bit_and value by.mask / 2 ^ by.shift ≤ by.scale.maximum
  pub shift : 0 < by.mask → by.shift ≡ trailing_zeros w32 by.mask
  pub maximum : 0 < by.mask → by.scale.maximum ≡ moved_down by.mask by.mask

-- the channel is of this mask, and something stands for it where it is 0
pub record IsScaleOf (by : ChannelScale) (mask absent : ℕ) : Type 0 where
  pub is_mask : by.mask ≡ mask
  pub is_absent : by.absent ≡ absent
  pub is_scale : IsChannelScale by

-- the four are those of these masks
pub record AreScalesOf (scales : ChannelScales) (masks : Masks) : Type 0 where
  pub red : IsScaleOf scales.red masks.red 0
  pub green : IsScaleOf scales.green masks.green 0
  pub blue : IsScaleOf scales.blue masks.blue 0
  pub alpha : IsScaleOf scales.alpha masks.alpha 255
