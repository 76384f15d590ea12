use Rattle.std.proofs.Common.{◌≡◌, ℕ, ◌+◌, ◌-◌, List, [], ◌∷◌, arith}
use Rattle.engine_resource.specs.Uses.{Use, counted, EachHeld, acquires, releases}
use Rattle.engine_resource.specs.Uses.Use.{acquire, release}
use Rattle.engine_resource.proofs.laws.count_is_acquires_less_releases.Goals as goal

-- the same from any count
counted_from : (count : ℕ) (uses : List Use) → EachHeld count uses → counted count uses + releases uses ≡ count + acquires uses
counted_from count [] held = omega arith
counted_from count (acquire ∷ uses) held = omega (arith, counted_from (count + 1) uses held)
counted_from count (release ∷ uses) held = omega (arith, held.0, counted_from (count - 1) uses held.1)

pub returns : goal.returns
returns c uses held = omega (arith, counted_from 0 uses held)
