-- What a seat that stores an entry knows, by how far it has come. It is there for tests.
use Rattle.std.specs.Prelude.{◌≡◌, ℕ, List, [], None, ⊤}
use Rattle.store_world.specs.Knowledge.{Knowledge}
use Rattle.store_shared.specs.Holding.{wanting, holding, editing, edit_of, leaving}
use Rattle.store_runs.specs.declared.phases.Phase.{Phase}
use Rattle.store_runs.specs.declared.phases.Phase.TheVariants as phases

abbrev pub IsAt : Phase → List ℕ → Knowledge → Type 0
IsAt phases.Outside key known = known ≡ None
IsAt phases.Wanting key known = known ≡ wanting key
IsAt phases.Holding key known = known ≡ holding key
IsAt phases.Editing key known = known ≡ editing (edit_of []) key
IsAt phases.Written key known = (file : List ℕ) × (known ≡ editing (edit_of file) key)
IsAt phases.Leaving key known = known ≡ leaving key
IsAt phases.Ended key known = known ≡ None
IsAt phases.Stuck key known = ⊤
