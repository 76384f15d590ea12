-- What `fetch` and `store` answer, and the steps by which they come to it. That an entry is written by the seat that has its
-- key's write lock, and the order of the steps, are Glide's (DiskLruCacheWrapper, DiskCacheWriteLocker); the rest is this
-- project's own.
use Rattle.std.specs.Prelude.{◌≡◌, ℕ, true, false, List, [], ◌∷◌, ◌++◌, length, Some, None, Ok, Err, Result, IfOk, IsOk, IfSome, ⊤}
use Rattle.std.specs.declared.option.Option.{Option}
use Rattle.std.specs.Option.{option_map}
use Rattle.outside.specs.Content.{Contents}
use Rattle.cache_key.specs.declared.bytes.Which.{Which}
use Rattle.cache_key.specs.Key.{Key}
use Rattle.cache_key.specs.FileKey.{file_key}
use Rattle.disk_lru.specs.declared.refusals.DiskFault.{DiskFault}
use Rattle.disk_lru.specs.declared.refusals.DiskFault.TheVariants as faults
use Rattle.store_world.specs.declared.events.StoreEvent.TheVariants as events
use Rattle.store_world.specs.declared.events.StoreReply.{StoreReply}
use Rattle.store_world.specs.declared.events.StoreReply.TheVariants as replies
use Rattle.store_world.specs.declared.events.Note.{Note}
use Rattle.store_world.specs.Envelopes.{envelope, payload_of}
use Rattle.store_world.specs.Right.{Pair, IsPayload}
use Rattle.store_world.specs.Steps.{done}
use Rattle.store_world.specs.Laws.{IsStored}
use Rattle.store_world.specs.StoreMachine.{noted}
use Rattle.store_shared.specs.declared.answers.Stored.{Stored}
use Rattle.store_shared.specs.declared.answers.Stored.TheVariants as answers
use Rattle.store_shared.specs.Caller.{Caller, IsStep, AreSteps}

-- ---- fetch

-- an answer with the list of its bytes
abbrev pub answer_of : {V : Type 0} → (V → List ℕ) → Result (Option V) DiskFault → Result (Option (List ℕ)) DiskFault
answer_of bytes (Ok found) = Ok (option_map bytes found)
answer_of bytes (Err fault) = Err fault

-- What a read of an entry's file is answered: the payload, where the file is the envelope of just these key bytes; else nothing.
-- Memory may be wanting for the bytes.
abbrev pub IsRead : List ℕ → Result (Option (List ℕ)) DiskFault → StoreReply → Type 0
IsRead bytes (Ok found) (replies.Bytes None) = found ≡ None
IsRead bytes (Ok found) (replies.Bytes (Some text)) = found ≡ payload_of bytes text
IsRead bytes (Err fault) (replies.Bytes (Some text)) = fault ≡ faults.Memory
IsRead bytes (Err fault) (replies.Fault f) = fault ≡ f
IsRead bytes answer reply = ⊥

-- The entry of these key bytes is read, unless memory is wanting for them.
pub data Fetches (bytes : List ℕ) : Result (Option (List ℕ)) DiskFault → List Note → Type 0 where
  no_key_bytes : Fetches bytes (Err faults.Memory) []
  read : (answer : Result (Option (List ℕ)) DiskFault) (reply : StoreReply) → IsRead bytes answer reply
      → Fetches bytes answer (noted (events.Fetch (file_key bytes)) reply ∷ [])

-- Where the content is told, what was found is what the content has for the key.
abbrev pub FindsRight : Option Contents → Which → Key → Result (Option (List ℕ)) DiskFault → Type 0
FindsRight told which key answer =
    IfSome told (λ content. IfOk answer (λ found. IfSome found (λ payload.
    IsPayload content which key payload)))

-- ---- the write lock

-- A caller that wants a lock asks for it until it has it.
pub data Waits : List Note → Type 0 where
  granted : Waits (noted events.Granted (replies.Front true) ∷ [])
  not_yet : (notes : List Note) → Waits notes → Waits (noted events.Granted (replies.Front false) ∷ notes)

-- ---- store

-- what a failure of the disk cache is answered
abbrev pub failed_by : DiskFault → Stored
failed_by faults.Failed = answers.Failed
failed_by faults.Memory = answers.Memory

-- An edit was begun. Its file is written and committed; or the edit is given up, whatever that is replied.
pub data Writes (file : List ℕ) : Stored → List Note → Type 0 where
  no_envelope : (reply : StoreReply) → Writes file answers.Memory (noted events.GiveUp reply ∷ [])
  unwritten : (fault : DiskFault) (reply : StoreReply) → Writes file (failed_by fault)
      (noted (events.Write file) (replies.Fault fault) ∷ noted events.GiveUp reply ∷ [])
  uncommitted : (fault : DiskFault) → Writes file (failed_by fault)
      (noted (events.Write file) replies.Done ∷ noted events.Commit (replies.Fault fault) ∷ [])
  stored : Writes file answers.Stored
      (noted (events.Write file) replies.Done ∷ noted events.Commit replies.Done ∷ [])

-- A caller has the lock. An entry that is there already stays.
pub data Edits (file : List ℕ) : Stored → List Note → Type 0 where
  already : Edits file answers.Already (noted events.Begin replies.Already ∷ [])
  unbegun : (fault : DiskFault) → Edits file (failed_by fault) (noted events.Begin (replies.Fault fault) ∷ [])
  begun : (answer : Stored) (notes : List Note) → Writes file answer notes
      → Edits file answer (noted events.Begin replies.Done ∷ notes)

-- the note of a caller that wants the lock of the entry of these key bytes with this payload
abbrev pub wants : List ℕ → List ℕ → StoreReply → Note
wants bytes payload reply =
    noted (events.Want (file_key bytes) (length (envelope bytes payload)) (length payload)) reply

-- The caller waits for the lock, edits the entry, and gives the lock back.
pub data LockedSteps (file : List ℕ) : Stored → List Note → Type 0 where
  edited : (answer : Stored) (waits edits : List Note) → Waits waits → Edits file answer edits
      → LockedSteps file answer (waits ++ edits ++ noted events.Done replies.Done ∷ [])

-- The lock of an entry is wanted, which is refused for a store that is off, and then for an entry that is too large; else the
-- entry is stored under the lock. Memory may be wanting for the key bytes.
pub data Stores (bytes payload : List ℕ) : Stored → List Note → Type 0 where
  no_key_bytes : Stores bytes payload answers.Memory []
  off : Stores bytes payload answers.Off (wants bytes payload replies.Off ∷ [])
  too_large : Stores bytes payload answers.TooLarge (wants bytes payload replies.TooLarge ∷ [])
  locked : (answer : Stored) (notes : List Note) → LockedSteps (envelope bytes payload) answer notes
      → Stores bytes payload answer (wants bytes payload replies.Done ∷ notes)

-- ---- what was stored

-- A commit was answered so. Where it succeeded it stored this pair.
pub record IsCommit (pair : Pair) (answer : Result ⊤ DiskFault) (old new : Caller) : Type 0 where
  pub step : IsStep old (noted events.Commit (done answer)) new
  pub stored : IsOk answer → IsStored pair step.before step.after

-- A commit that stored this pair was among the steps.
pub record CommitsEntry (pair : Pair) (old new : Caller) : Type 0 where
  pub before : Caller
  pub after : Caller
  pub earlier : List Note
  pub later : List Note
  pub led : AreSteps old earlier before
  pub commit : IsCommit pair (Ok tt) before after
  pub left : AreSteps after later new
