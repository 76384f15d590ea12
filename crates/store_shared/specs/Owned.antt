-- A store that one caller owns, whose seat is 0. It is this project's own.
use Rattle.std.specs.Prelude.{◌≡◌, ◌≢◌, ℕ, [], None}
use Rattle.state_machine.specs.Histories.{own}
use Rattle.disk_store.specs.Kept.{StoreValue}
use Rattle.store_shared.specs.Caller.{Caller, IsMoment}

-- its caller has seen all its steps, and made them
abbrev pub owner_of : StoreValue → Caller
owner_of store = record { who = 0; turn = None; opening = store.opening; seen = store.history }

-- Its history leads to its world, and no other seat has made a step.
pub record IsOwned (store : StoreValue) : Type 0 where
  pub moment : IsMoment store.opening store.history store.world
  pub alone : (who : ℕ) → who ≢ 0 → own who store.history ≡ []
