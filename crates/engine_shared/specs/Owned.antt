-- An engine that one caller owns, whose seat is 0. It is this project's own.
use Rattle.std.specs.Prelude.{◌≡◌, ℕ}
use Rattle.engine_core.specs.CoreView.{CoreValue}
use Rattle.engine_shared.specs.Caller.{Caller, knowledge_of, IsLegal}

-- its caller has seen all its steps, and made them
abbrev pub owner_of : CoreValue → Caller
owner_of core = record { who = 0; seen = core.history; world = core.world }

-- What the owner has seen is legal, and this is how many loads it made that were not Full.
pub record IsOwned (core : CoreValue) (begun : ℕ) : Type 0 where
  pub legal : IsLegal (owner_of core)
  pub count : begun ≡ (knowledge_of (owner_of core)).begun
