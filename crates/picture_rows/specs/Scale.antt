-- How samples are scaled without a division.
use Rattle.std.specs.Prelude.{◌≡◌, ℕ, ◌≤◌, ◌+◌, ◌*◌, ◌/◌, ◌^◌}
use Rattle.picture_rows.specs.declared.scale.Scale.{Scale}

-- the reciprocal of a maximum, rounded up, where 2 to the 40th stands for 1
abbrev pub reciprocal : ℕ → ℕ
reciprocal maximum = 2 ^ 40 / maximum + 1

-- Sample and half of the maximum are multiplied by the reciprocal.
pub record IsScale (scale : Scale) : Type 0 where
  pub above_zero : 1 ≤ scale.maximum
  pub factor : scale.factor ≡ 255 * reciprocal scale.maximum
  pub offset : scale.offset ≡ scale.maximum / 2 * reciprocal scale.maximum
