-- The parts of a world, by its fields.
use Rattle.std.specs.Prelude.{ℕ, List}
use Rattle.bitmap_pool.specs.Pool.{Group}
use Rattle.engine_world.specs.World.{Loads, Jobs, Resources}
use Rattle.engine_world.specs.Places.{Whereabouts}
use Rattle.engine_world.specs.Sound.{Facts}

abbrev pub whereabouts_of : Loads → Jobs → Resources → (cached : List ℕ) → List (Group ℕ) → Whereabouts
whereabouts_of loads jobs resources cached pool = record { loads = loads; jobs = jobs; resources = resources; cached = cached; pool = pool }

abbrev pub facts_of : Loads → Jobs → Resources → (begun : List ℕ) → Facts
facts_of loads jobs resources begun = record { loads = loads; jobs = jobs; resources = resources; begun = begun }
