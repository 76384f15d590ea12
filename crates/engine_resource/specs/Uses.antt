-- What the uses of a resource come to. That a resource is held by who acquired it and did not release it is Glide's EngineResource.
use Rattle.std.specs.Prelude.{◌≡◌, ℕ, ◌+◌, ◌-◌, ◌<◌, List, [], ◌∷◌}

-- a use that changes the count
pub data Use : Type 0 where
  acquire : Use
  release : Use

-- the count after uses from this one
abbrev pub counted : ℕ → List Use → ℕ
counted count [] = count
counted count (acquire ∷ uses) = counted (count + 1) uses
counted count (release ∷ uses) = counted (count - 1) uses

-- Each release finds one that holds the resource.
abbrev pub EachHeld : ℕ → List Use → Type 0
EachHeld count [] = Unit {0}
EachHeld count (acquire ∷ uses) = EachHeld (count + 1) uses
EachHeld count (release ∷ uses) = (0 < count) × EachHeld (count - 1) uses

abbrev pub acquires : List Use → ℕ
acquires [] = 0
acquires (acquire ∷ uses) = 1 + acquires uses
acquires (release ∷ uses) = acquires uses

abbrev pub releases : List Use → ℕ
releases [] = 0
releases (acquire ∷ uses) = releases uses
releases (release ∷ uses) = 1 + releases uses

-- A new resource's count is how often it was acquired less how often it was released.
abbrev pub AcquiresLessReleases : Type 0
AcquiresLessReleases = (uses : List Use) → EachHeld 0 uses → counted 0 uses + releases uses ≡ acquires uses
