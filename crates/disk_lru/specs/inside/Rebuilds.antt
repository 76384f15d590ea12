-- What the rebuilds before and after a call leave, and a call between them.
use Rattle.std.specs.Prelude.{◌≡◌, ◌≤◌, List, ℕ}
use Rattle.cache_folder.specs.Images.{IfKnown, WasKnown, Runs}
use Rattle.cache_folder.specs.Sound.{RebuildWay}
use Rattle.disk_lru.specs.State.{CacheState, entries, edits, Offers}
use Rattle.disk_lru.specs.Calls.{Steps, CallOn, StillAnswers}
use Rattle.disk_lru.specs.Trims.{AddsNoOther}

pub record Rebuilds (old new : CacheState) : Type 0 where
  pub entries_are : entries new ≡ entries old
  pub edits_are : edits new ≡ edits old
  -- each key with the length of its readable value
  pub keys_are : new.table.table.entries ≡ old.table.table.entries
  pub maximum_is : new.maximum ≡ old.maximum
  pub known : WasKnown old.history new.history
  pub moments : IfKnown old.history (λ h. Runs (RebuildWay h.held (entries old)) h new.history)
  pub files : AddsNoOther old new
  pub later : old.faults ≤ new.faults

-- a call that succeeded, without the rebuilds
pub record Took (key : List ℕ) (steps : Steps) (old new : CacheState) : Type 0 where
  pub call : CallOn key steps steps old new
  pub offers_now : IfKnown new.history (λ k. Offers k.held new)
  pub answers : (any : List ℕ) → StillAnswers any old new
