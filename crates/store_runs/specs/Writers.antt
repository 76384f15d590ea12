-- Two seats that store one entry. It is there for tests.
use Rattle.std.specs.Prelude.{◌≡◌, ℕ, List, None}
use Rattle.store_world.specs.Knowledge.{knowledge_in}
use Rattle.disk_store.specs.Kept.{StoreValue}
use Rattle.store_runs.specs.declared.phases.Phase.{Phase}
use Rattle.store_runs.specs.Phases.{IsAt}

-- Each seat knows what it does at its phase, and the store speaks for no content.
pub record AreAt (store : StoreValue) (key : List ℕ) (first second : Phase) : Type 0 where
  pub untold : store.opening.content ≡ None
  pub first_at : IsAt first key (knowledge_in store.history 0)
  pub second_at : IsAt second key (knowledge_in store.history 1)
