-- What holds of each event of the store. It is this project's own.
use Rattle.std.specs.Prelude.{◌≡◌, ◌≢◌, ℕ, ◌<◌, ◌≤◌, Bool, true, false, List, [], ◌∷◌, ◌++◌, length, Some, None, Ok, Result, ⊤}
use Rattle.std.specs.declared.option.Option.{Option}
use Rattle.std.specs.List.{list_any}
use Rattle.std.specs.Str.{bytes_eq}
use Rattle.outside.specs.Content.{Contents}
use Rattle.disk_table.specs.Table.{edit_of, is_full_for}
use Rattle.cache_folder.specs.Images.{IfKnown, Runs}
use Rattle.cache_folder.specs.Allowed.{Pass, IsWithin}
use Rattle.cache_folder.specs.Tables.{edit_at}
use Rattle.disk_lru.specs.declared.refusals.DiskFault.{DiskFault}
use Rattle.disk_lru.specs.State.{entries, edits}
use Rattle.disk_lru.specs.Calls.{StaysWithin}
use Rattle.disk_lru.specs.Past.{DiskState}
use Rattle.disk_lru.specs.Staying.{HasEntry}
use Rattle.store_world.specs.declared.events.StoreEvent.{StoreEvent}
use Rattle.store_world.specs.declared.events.StoreEvent.TheVariants as events
use Rattle.store_world.specs.declared.events.StoreReply.{StoreReply}
use Rattle.store_world.specs.declared.events.StoreReply.TheVariants as replies
use Rattle.store_world.specs.Right.{Pair, IsRight, OffersRight, HoldsRight}
use Rattle.store_world.specs.World.{SeatEdit, Request, World, request_of}
use Rattle.store_world.specs.DiskCalls.{next_eviction, Evicts, EvictsTo, EvictsAll}
use Rattle.store_world.specs.Steps.{Transition}
use Rattle.store_world.specs.Knowledge.{Knowledge, knowledge_with}
use Rattle.store_world.specs.Permits.{MayBegin, HasOpenEdit, Permits}
use Rattle.store_world.specs.Sound.{seat_count, Sound}

-- ---- soundness

-- From a sound world, an event that its seat is permitted leaves a sound one, with what the seat knows by
-- then.
abbrev pub KeepsSound : StoreEvent → Type 0
KeepsSound event = (w z : World) (known : ℕ → Knowledge) (who : ℕ) (reply : StoreReply)
    → who < seat_count → Sound w known → Permits w.content (known who) event
    → Transition w who event reply z → Sound z (knowledge_with known who event reply)

-- It leaves the content as it is, and whether the store is off, and the greatest size of the cache.
pub record SameSettings (w z : World) : Type 0 where
  pub off : z.off ≡ w.off
  pub content : z.content ≡ w.content
  pub maximum : z.disk.cache.maximum ≡ w.disk.cache.maximum

abbrev pub KeepsSettings : StoreEvent → Type 0
KeepsSettings event =
    (w z : World) (who : ℕ) (reply : StoreReply) → Transition w who event reply z → SameSettings w z

-- An event of a store that is off changes nothing.
abbrev pub KeepsOff : StoreEvent → Type 0
KeepsOff event = (w z : World) (known : ℕ → Knowledge) (who : ℕ) (reply : StoreReply)
    → Sound w known → w.off ≡ true → Transition w who event reply z → z ≡ w

-- ---- what the calls of the disk cache ask

-- A begin of this key is refused neither as busy nor for want of room.
pub record CanBegin (key : List ℕ) (disk : DiskState) : Type 0 where
  pub free : edit_of key (edits disk.cache) ≡ None
  pub room : is_full_for key disk.cache.table.table ≡ false

-- After the evictions of a Begin that its caller may make, the edit can be begun.
abbrev pub HoldersBegin : Type 0
HoldersBegin = (w : World) (known : ℕ → Knowledge) (who : ℕ) (gone : List (List ℕ)) (disk : DiskState)
    (may : MayBegin (known who)) → Sound w known → EvictsAll gone w.disk (Ok tt) disk
    → CanBegin may.request.key disk

-- An edit is open in the disk cache, with what was written.
pub record IsUnderEdit (key written : List ℕ) (disk : DiskState) : Type 0 where
  pub number : ℕ
  pub is : edit_of key (edits disk.cache) ≡ Some number
  pub length_is : edit_at key (entries disk.cache) ≡ Some (length written)

-- A seat's edit to which no write failed is open.
abbrev pub HoldersWrite : Type 0
HoldersWrite = (w : World) (known : ℕ → Knowledge) (who : ℕ) (may : HasOpenEdit (known who))
    → Sound w known → IsUnderEdit may.holds.request.key may.holds.edit.written w.disk

-- The edits of other seats that are open keep their numbers.
abbrev pub KeepsNumbers : StoreEvent → Type 0
KeepsNumbers event = (w z : World) (known : ℕ → Knowledge) (who other : ℕ) (reply : StoreReply)
    (request : Request) (edit : SeatEdit) → Sound w known → Permits w.content (known who) event
    → Transition w who event reply z → other ≢ who
    → request_of other w.requests ≡ Some request → request.edit ≡ Some edit → edit.closed ≡ false
    → edit_of request.key (edits z.disk.cache) ≡ edit_of request.key (edits w.disk.cache)

-- There are at most 16 requests, and fewer while a seat that is served has none.
abbrev pub RequestsAreFew : Type 0
RequestsAreFew = (w : World) (known : ℕ → Knowledge) → Sound w known → length w.requests ≤ seat_count

abbrev pub OneMoreFits : Type 0
OneMoreFits = (w : World) (known : ℕ → Knowledge) (who : ℕ) → who < seat_count → Sound w known
    → known who ≡ None → length w.requests < seat_count

-- ---- locks

-- No two seats were told that they have one key's lock, and have not given it back.
abbrev pub OneHolder : Type 0
OneHolder = (w : World) (known : ℕ → Knowledge) (i j : ℕ) (a b : Request) → Sound w known
    → known i ≡ Some a → known j ≡ Some b → a.granted ≡ true → b.granted ≡ true → a.key ≡ b.key → i ≡ j

-- ---- what the files offer

-- the pair that an event hands to `commit`: what its seat has written, under its key
abbrev pub handed_of_edit : Request → Option SeatEdit → List Pair
handed_of_edit request None = []
handed_of_edit request (Some edit) = (request.key, edit.written) ∷ []

abbrev pub handed_of : Knowledge → List Pair
handed_of None = []
handed_of (Some request) = handed_of_edit request request.edit

abbrev pub handed_by_event : StoreEvent → Knowledge → List Pair
handed_by_event events.Commit known = handed_of known
handed_by_event event known = []

-- Each moment of an event offers only pairs that were offered or kept before, or that it hands to `commit`.
abbrev pub KeepsWithin : StoreEvent → Type 0
KeepsWithin event = (w z : World) (known : ℕ → Knowledge) (who : ℕ) (reply : StoreReply)
    → Sound w known → Permits w.content (known who) event → Transition w who event reply z
    → IfKnown w.disk.cache.history (λ h. (allowed : Pair → Bool)
    → IsWithin allowed h.held (entries w.disk.cache)
    → Pass allowed (handed_by_event event (known who)) → StaysWithin allowed h z.disk.cache)

-- the files passed only through contents that offer what is right
abbrev pub PassesRight : Contents → DiskState → DiskState → Type 0
PassesRight content old new =
    IfKnown old.cache.history (λ h. Runs (OffersRight content) h new.cache.history)

-- Where the content is told and the files hold what is right, each moment of an event offers only what is
-- right. While the store is not off, its files do.
abbrev pub KeepsRight : StoreEvent → Type 0
KeepsRight event = (content : Contents) (w z : World) (known : ℕ → Knowledge) (who : ℕ) (reply : StoreReply)
    → w.content ≡ Some content → HoldsRight content w.disk.cache.history → Sound w known
    → Permits w.content (known who) event → Transition w who event reply z
    → PassesRight content w.disk z.disk

-- And what is fetched is a right pair with its key.
abbrev pub FetchesRight : Type 0
FetchesRight = (content : Contents) (w z : World) (known : ℕ → Knowledge) (who : ℕ) (key bytes : List ℕ)
    → w.content ≡ Some content → Sound w known
    → Transition w who (events.Fetch key) (replies.Bytes (Some bytes)) z → IsRight content (key, bytes)

-- ---- what a commit stores

abbrev pub is_one_of : List ℕ → List (List ℕ) → Bool
is_one_of key keys = list_any (bytes_eq key) keys

-- What was committed is an entry right after it, and still is when the evictions that follow have ended,
-- unless they took just this key: wherever it is known what the files hold.
pub record IsStored (pair : Pair) (w z : World) : Type 0 where
  pub between : DiskState
  pub gone : List (List ℕ)
  pub evicts : EvictsAll gone between (Ok tt) z.disk
  pub there : IfKnown w.disk.cache.history (λ h.
      IfKnown between.cache.history (λ k. HasEntry pair k.held between.cache))
  pub still : is_one_of pair.0 gone ≡ false → IfKnown w.disk.cache.history (λ h.
      IfKnown z.disk.cache.history (λ k. HasEntry pair k.held z.disk.cache))

abbrev pub CommitStores : Type 0
CommitStores = (w z : World) (known : ℕ → Knowledge) (who : ℕ) (may : HasOpenEdit (known who))
    → Sound w known → Transition w who events.Commit replies.Done z
    → IsStored (may.holds.request.key, may.holds.edit.written) w z

-- ---- a cache with room

-- Where nothing is to go, evictions take nothing and change nothing, and cannot fail.
abbrev pub RoomKeeps : Type 0
RoomKeeps = (old new : DiskState) (gone : List (List ℕ)) (result : Result ⊤ DiskFault)
    → next_eviction old ≡ None → EvictsAll gone old result new
    → (gone ≡ []) × (result ≡ Ok tt) × (new ≡ old)

-- ---- evictions as a loop

-- One eviction more.
abbrev pub EvictsOneMore : Type 0
EvictsOneMore = (gone : List (List ℕ)) (key : List ℕ) (old between new : DiskState)
    → EvictsTo gone old between → next_eviction between ≡ Some key → Evicts between (Ok true) new
    → EvictsTo (gone ++ key ∷ []) old new
