-- A line of pixels at one scale: columns and rows of every transform are computed by it.
use Rattle.std.specs.Prelude.{ℕ, ◌+◌, ◌*◌, ◌/◌, ◌<◌, ◌^◌, ◌≡◌}
use Rattle.transforms.specs.declared.axes.Axis.{Axis}

-- the place of a pixel, from its number
abbrev pub axis_place : Axis → ℕ → ℕ
axis_place axis k = ((2 * k + 1) * axis.scale + axis.shift) / axis.unit

-- the place of a pixel can be computed
pub record FitsAxis (axis : Axis) (k : ℕ) : Type 0 where
  pub sum : (2 * k + 1) * axis.scale + axis.shift < 2 ^ 64
  pub unit : 0 < axis.unit
  pub place : axis_place axis k < 2 ^ 32

-- The pixels below `to` of a line come from these places, all below `from`, and each can be computed.
pub record Follows (axis : Axis) (to from : ℕ) (place : ℕ → ℕ) : Type 0 where
  pub same : (k : ℕ) → k < to → axis_place axis k ≡ place k
  pub fits : (k : ℕ) → k < to → FitsAxis axis k
  pub inside : (k : ℕ) → k < to → place k < from
