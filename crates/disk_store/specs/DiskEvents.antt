-- What the events Begin and Commit do on the disk cache. That a store evicts before it begins, so that an edit is never refused
-- for want of room, and after a commit, is this project's own: DiskLruCache evicts behind its callers.
use Rattle.std.specs.Prelude.{◌≡◌, ℕ, List, Ok, Err, Result, ⊤}
use Rattle.disk_lru.specs.declared.refusals.DiskFault.{DiskFault}
use Rattle.disk_lru.specs.State.{EditValue}
use Rattle.disk_lru.specs.Past.{DiskState}
use Rattle.store_world.specs.DiskCalls.{Begins, Commits, EvictsAll}
use Rattle.store_world.specs.Laws.{CanBegin}

-- ---- Begin

-- after whatever evictions that do not fail, an edit of the key is refused neither as busy nor for want of room
abbrev pub MayBeginAfterEvicting : List ℕ → DiskState → Type 0
MayBeginAfterEvicting key old =
    (gone : List (List ℕ)) (between : DiskState) → EvictsAll gone old (Ok tt) between → CanBegin key between

-- where no eviction failed, the edit is begun
abbrev pub BeginsUnlessFailed : List ℕ → Result ⊤ DiskFault → DiskState → Result EditValue DiskFault
    → DiskState → Type 0
BeginsUnlessFailed key (Err fault) between result new = (result ≡ Err fault) × (new ≡ between)
BeginsUnlessFailed key (Ok nothing) between result new = Begins key between result new

pub record BeginsAfterEvicting (key : List ℕ) (old : DiskState) (result : Result EditValue DiskFault)
    (new : DiskState) : Type 0 where
  pub gone : List (List ℕ)
  pub evicted : Result ⊤ DiskFault
  pub between : DiskState
  pub evicts : EvictsAll gone old evicted between
  pub begins : BeginsUnlessFailed key evicted between result new

-- ---- Commit

-- where the commit did not fail, what is too much is evicted
abbrev pub EvictsUnlessFailed : Result ⊤ DiskFault → DiskState → Result ⊤ DiskFault → DiskState → Type 0
EvictsUnlessFailed (Err fault) between result new = (result ≡ Err fault) × (new ≡ between)
EvictsUnlessFailed (Ok nothing) between result new =
    (gone : List (List ℕ)) × EvictsAll gone between result new

pub record EvictsAfterCommit (key : List ℕ) (old : DiskState) (result : Result ⊤ DiskFault)
    (new : DiskState) : Type 0 where
  pub committed : Result ⊤ DiskFault
  pub between : DiskState
  pub commits : Commits key old committed between
  pub evicts : EvictsUnlessFailed committed between result new
