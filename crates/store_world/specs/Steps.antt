-- One step of the store for each event: what it answers, and the state that it leaves. The rules are those
-- of Glide's DiskLruCacheWrapper; the events are this project's own. docs/DISK.md has them in a table.
use Rattle.std.specs.Prelude.{◌≡◌, ℕ, Bool, true, false, ◌||◌, nat_lt, List, [], ◌∷◌, ◌++◌, Some, None, Ok, Err, Result, IsSomeAnd, ⊤}
use Rattle.std.specs.declared.option.Option.{Option}
use Rattle.state_machine.specs.declared.entry.Entry.{Entry}
use Rattle.cache_folder.specs.Tables.{is_offered}
use Rattle.disk_lru.specs.declared.refusals.DiskFault.{DiskFault}
use Rattle.disk_lru.specs.State.{EditValue, entries}
use Rattle.disk_lru.specs.Past.{DiskState}
use Rattle.store_world.specs.declared.events.StoreEvent.{StoreEvent}
use Rattle.store_world.specs.declared.events.StoreEvent.TheVariants as events
use Rattle.store_world.specs.declared.events.StoreReply.{StoreReply}
use Rattle.store_world.specs.declared.events.StoreReply.TheVariants as replies
use Rattle.store_world.specs.declared.events.Note.{Note}
use Rattle.store_world.specs.World.{SeatEdit, Request, Requests, World, request_of, with_request, without_seat, has_lock}
use Rattle.store_world.specs.DiskCalls.{Gets, Begins, Writes, Commits, Aborts, EvictsAll}

-- ---- a seat's request and its edit

abbrev pub new_request : List ℕ → Request
new_request key = record { key = key; granted = false; begun = false; edit = None }

-- it was told that it has the lock
abbrev pub granted : Request → Request
granted request = record request { granted = true }

abbrev pub granted_if : Bool → Request → Request
granted_if true request = granted request
granted_if false request = request

-- it made its Begin, and has this edit or none
abbrev pub begun_with : Option SeatEdit → Request → Request
begun_with edit request = record request { begun = true; edit = edit }

abbrev pub with_edit : Option SeatEdit → Request → Request
with_edit edit request = record request { edit = edit }

abbrev pub new_edit : SeatEdit
new_edit = record { written = []; closed = false }

abbrev pub more_written : List ℕ → SeatEdit → SeatEdit
more_written bytes edit = record edit { written = edit.written ++ bytes }

abbrev pub closed_edit : SeatEdit → SeatEdit
closed_edit edit = record edit { closed = true }

-- ---- what an event answers and leaves

abbrev pub Outcome : Type 0
Outcome = StoreReply × World

-- This is the reply, and this is left.
abbrev pub IsOutcome : StoreReply → World → Outcome → Type 0
IsOutcome reply z outcome = (reply ≡ outcome.0) × (z ≡ outcome.1)

abbrev pub with_disk : DiskState → World → World
with_disk disk w = record w { disk = disk }

abbrev pub with_requests : Requests → World → World
with_requests requests w = record w { requests = requests }

-- the seat's request is another now
abbrev pub with_own : ℕ → Request → World → World
with_own who request w = with_requests (with_request who request w.requests) w

-- the same, and so is the disk cache
abbrev pub with_own_on : DiskState → ℕ → Request → World → World
with_own_on disk who request w = with_own who request (with_disk disk w)

abbrev pub done : Result ⊤ DiskFault → StoreReply
done (Ok nothing) = replies.Done
done (Err fault) = replies.Fault fault

-- ---- Fetch and Want

abbrev pub fetched : Result (Option (List ℕ)) DiskFault → StoreReply
fetched (Ok found) = replies.Bytes found
fetched (Err fault) = replies.Fault fault

-- a store that is off has nothing
abbrev pub Fetch : Bool → World → List ℕ → StoreReply → World → Type 0
Fetch true w key reply z = IsOutcome reply z (replies.Bytes None, w)
Fetch false w key reply z =
    (result : Result (Option (List ℕ)) DiskFault) × (disk : DiskState)
    × Gets key w.disk result disk × IsOutcome reply z (fetched result, with_disk disk w)

-- an entry that is longer than all entries may be together, or a payload that is longer than its length
-- can say
abbrev pub is_too_large : ℕ → ℕ → ℕ → Bool
is_too_large maximum length payload = nat_lt maximum length || nat_lt 4294967295 payload

-- the seat goes last into the key's queue
abbrev pub want : Bool → Bool → World → ℕ → List ℕ → Outcome
want true large w who key = (replies.Off, w)
want false true w who key = (replies.TooLarge, w)
want false false w who key =
    (replies.Done, with_requests (w.requests ++ (who, new_request key) ∷ []) w)

-- ---- Granted and Begin

abbrev pub ask_granted : World → ℕ → Bool → Request → Outcome
ask_granted w who first request = (replies.Front first, with_own who (granted_if first request) w)

-- the edit was begun, or the cache failed
abbrev pub begun_edit : World → ℕ → Request → DiskState → Result EditValue DiskFault → Outcome
begun_edit w who request disk (Ok edit) =
    (replies.Done, with_own_on disk who (begun_with (Some new_edit) request) w)
begun_edit w who request disk (Err fault) =
    (replies.Fault fault, with_own_on disk who (begun_with None request) w)

-- after evictions of which none failed, the edit is begun
abbrev pub BeginAfter : Result ⊤ DiskFault → World → ℕ → Request → DiskState → StoreReply → World → Type 0
BeginAfter (Err fault) w who request disk reply z =
    IsOutcome reply z (replies.Fault fault, with_own_on disk who (begun_with None request) w)
BeginAfter (Ok nothing) w who request disk reply z =
    (result : Result EditValue DiskFault) × (begun : DiskState) × Begins request.key disk result begun
    × IsOutcome reply z (begun_edit w who request begun result)

-- an entry that is there already stays; else what is too much is evicted first
abbrev pub Begin : Bool → World → ℕ → Request → StoreReply → World → Type 0
Begin true w who request reply z =
    IsOutcome reply z (replies.Already, with_own who (begun_with None request) w)
Begin false w who request reply z =
    (gone : List (List ℕ)) × (evicted : Result ⊤ DiskFault) × (disk : DiskState)
    × EvictsAll gone w.disk evicted disk × BeginAfter evicted w who request disk reply z

-- ---- Write, Commit and GiveUp

abbrev pub edit_after : List ℕ → Result ⊤ DiskFault → SeatEdit → SeatEdit
edit_after bytes (Ok nothing) edit = more_written bytes edit
edit_after bytes (Err fault) edit = closed_edit edit

abbrev pub Write : World → ℕ → Request → SeatEdit → List ℕ → StoreReply → World → Type 0
Write w who request edit bytes reply z =
    (result : Result ⊤ DiskFault) × (disk : DiskState) × Writes request.key bytes w.disk result disk
    × IsOutcome reply z (
      done result,
      with_own_on disk who (with_edit (Some (edit_after bytes result edit)) request) w,
    )

-- after a commit that succeeded, what is too much is evicted
abbrev pub CommitAfter : Result ⊤ DiskFault → World → ℕ → Request → DiskState → StoreReply → World → Type 0
CommitAfter (Err fault) w who request disk reply z =
    IsOutcome reply z (replies.Fault fault, with_own_on disk who (with_edit None request) w)
CommitAfter (Ok nothing) w who request disk reply z =
    (gone : List (List ℕ)) × (evicted : Result ⊤ DiskFault) × (left : DiskState)
    × EvictsAll gone disk evicted left
    × IsOutcome reply z (done evicted, with_own_on left who (with_edit None request) w)

abbrev pub Commit : World → ℕ → Request → StoreReply → World → Type 0
Commit w who request reply z =
    (result : Result ⊤ DiskFault) × (disk : DiskState) × Commits request.key w.disk result disk
    × CommitAfter result w who request disk reply z

-- an edit that a failed write closed is given up already
abbrev pub GiveUp : Bool → World → ℕ → Request → StoreReply → World → Type 0
GiveUp true w who request reply z =
    IsOutcome reply z (replies.Done, with_own who (with_edit None request) w)
GiveUp false w who request reply z =
    (result : Result ⊤ DiskFault) × (disk : DiskState) × Aborts request.key w.disk result disk
    × IsOutcome reply z (done result, with_own_on disk who (with_edit None request) w)

-- ---- the step

-- the request of a seat is this, and it has this edit; without them the event is not made
abbrev pub WithRequest : World → ℕ → (Request → Type 0) → Type 0
WithRequest w who does = IsSomeAnd (request_of who w.requests) does

abbrev pub WithEdit : World → ℕ → (Request → SeatEdit → Type 0) → Type 0
WithEdit w who does = WithRequest w who (λ request. IsSomeAnd request.edit (does request))

-- An event of this seat is answered so, and leaves this.
abbrev pub Transition : World → ℕ → StoreEvent → StoreReply → World → Type 0
Transition w who (events.Fetch key) reply z = Fetch w.off w key reply z
Transition w who (events.Want key length payload) reply z =
    IsOutcome reply z (want w.off (is_too_large w.disk.cache.maximum length payload) w who key)
Transition w who events.Granted reply z =
    WithRequest w who (λ request. IsOutcome reply z (ask_granted w who (has_lock who w.requests) request))
Transition w who events.Begin reply z =
    WithRequest w who (λ request.
    Begin (is_offered request.key (entries w.disk.cache)) w who request reply z)
Transition w who (events.Write bytes) reply z =
    WithEdit w who (λ request edit. Write w who request edit bytes reply z)
Transition w who events.Commit reply z = WithEdit w who (λ request edit. Commit w who request reply z)
Transition w who events.GiveUp reply z =
    WithEdit w who (λ request edit. GiveUp edit.closed w who request reply z)
Transition w who events.Done reply z =
    IsOutcome reply z (replies.Done, with_requests (without_seat who w.requests) w)

-- An entry of a history leads from one world to the other.
abbrev pub Step : World → Entry Note → World → Type 0
Step w e z = Transition w e.by e.note.event e.note.reply z
