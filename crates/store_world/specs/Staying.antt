-- How long an entry is offered: until an eviction chooses it, or a read of it fails. This project's own.
use Rattle.std.specs.Prelude.{◌≡◌, ◌⊎◌, ℕ, List, Some, Ok}
use Rattle.disk_lru.specs.declared.refusals.DiskFault.{DiskFault}
use Rattle.disk_lru.specs.Past.{DiskState}
use Rattle.disk_lru.specs.Staying.{EntryStays}
use Rattle.store_world.specs.declared.events.StoreEvent.{StoreEvent}
use Rattle.store_world.specs.declared.events.StoreEvent.TheVariants as events
use Rattle.store_world.specs.declared.events.StoreReply.{StoreReply}
use Rattle.store_world.specs.declared.events.StoreReply.TheVariants as replies
use Rattle.store_world.specs.Right.{Pair}
use Rattle.store_world.specs.World.{Request, World, request_of}
use Rattle.store_world.specs.DiskCalls.{Commits, next_eviction, EvictsTo}
use Rattle.store_world.specs.Steps.{Transition}
use Rattle.store_world.specs.Knowledge.{Knowledge}
use Rattle.store_world.specs.Permits.{Permits}
use Rattle.store_world.specs.Sound.{Sound}

-- After some evictions this key is the one that goes next: there is too much then, and it is the eldest that
-- is not under edit.
pub record EvictionsChoose (key : List ℕ) (old : DiskState) : Type 0 where
  pub gone : List (List ℕ)
  pub last : DiskState
  pub evicts : EvictsTo gone old last
  pub next : next_eviction last ≡ Some key

-- The commit of the seat's edit succeeded, and the evictions after it choose this key.
pub record CommitChooses (key : List ℕ) (w : World) (who : ℕ) : Type 0 where
  pub request : Request
  pub is : request_of who w.requests ≡ Some request
  pub between : DiskState
  pub commits : Commits request.key w.disk (Ok tt) between
  pub chooses : EvictionsChoose key between

-- An event may take the entry of a key: by a read of it that fails, or by an eviction that chooses it.
abbrev pub MayTake : List ℕ → World → ℕ → StoreEvent → StoreReply → Type 0
MayTake key w who (events.Fetch read) reply =
    (read ≡ key) × (fault : DiskFault) × (reply ≡ replies.Fault fault)
MayTake key w who events.Begin reply = EvictionsChoose key w.disk
MayTake key w who events.Commit reply = CommitChooses key w who
MayTake key w who event reply = ⊥

-- An entry is offered at each moment of an event and after it, unless the event may take it.
abbrev pub KeepsEntries : StoreEvent → Type 0
KeepsEntries event = (pair : Pair) (w z : World) (known : ℕ → Knowledge) (who : ℕ) (reply : StoreReply)
    → Sound w known → Permits w.content (known who) event → Transition w who event reply z
    → EntryStays pair w.disk.cache z.disk.cache ⊎ MayTake pair.0 w who event reply
