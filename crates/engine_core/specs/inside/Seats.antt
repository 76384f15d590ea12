-- What seats know, for the tests. It is this project's own.
use Rattle.std.specs.Prelude.{◌≡◌, ℕ, ◌<◌, List, length, None}
use Rattle.state_machine.specs.declared.entry.Entry.{Entry}
use Rattle.engine_world.specs.declared.events.Note.{Note}
use Rattle.engine_world.specs.Knowledge.{knowledge_in}
use Rattle.engine_core.specs.CoreView.{CoreValue}

-- The core serves this seat, and no content is known.
pub record IsServed (core : CoreValue) (who : ℕ) : Type 0 where
  pub below : who < length core.world.limits.quotas
  pub untold : core.world.content ≡ None

-- A core serves whom it served.
abbrev pub Keeps : CoreValue → CoreValue → Type 0
Keeps old new = (who : ℕ) → IsServed old who → IsServed new who

-- Other seats know what they knew.
abbrev pub OthersKnow : ℕ → List (Entry Note) → List (Entry Note) → Type 0
OthersKnow who old new = (k : ℕ) → (who ≡ k → ⊥) → knowledge_in new k ≡ knowledge_in old k
