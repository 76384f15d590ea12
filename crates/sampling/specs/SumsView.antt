-- What contracts see of sums.
use Rattle.std.specs.Prelude.{ℕ, ◌^◌, List}
use Rattle.sampling.specs.declared.sums.Sums.{Sums}
use Rattle.sampling.specs.declared.sums.Sums.TheVariants.{Narrow, Wide}

-- the sums, four a block (red, green, blue, alpha)
abbrev pub lanes_of : Sums → List ℕ
lanes_of (Narrow lanes) = lanes.items
lanes_of (Wide lanes) = lanes.items

-- what each sum stays below
abbrev pub limit_of : Sums → ℕ
limit_of (Narrow lanes) = 2 ^ 32
limit_of (Wide lanes) = 2 ^ 128
