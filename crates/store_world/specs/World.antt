-- The state of the store as plain data. That one writer at a time has a key is Glide's
-- `DiskCacheWriteLocker`; the rest is this project's own.
use Rattle.std.specs.Prelude.{ℕ, Bool, false, List, [], ◌∷◌, Some, None, if◌then◌else◌, ◌==◌}
use Rattle.std.specs.declared.option.Option.{Option}
use Rattle.std.specs.Str.{bytes_eq}
use Rattle.outside.specs.Content.{Contents}
use Rattle.disk_lru.specs.Past.{DiskState}

-- ---- the write locks

-- an edit: the bytes that were written to it, and whether a write that failed closed it
pub record SeatEdit : Type 0 where
  pub written : List ℕ
  pub closed : Bool

-- What a seat wants a key's write lock for: whether it was told that it has the lock, whether it made its
-- Begin, and its edit.
pub record Request : Type 0 where
  pub key : List ℕ
  pub granted : Bool
  pub begun : Bool
  pub edit : Option SeatEdit

-- the seats that want locks, in the order of asking, each with its request
abbrev pub Requests : Type 0
Requests = List (ℕ × Request)

-- the queue of a key: the seats that want its lock, in order; the first has it
abbrev pub queue_of : List ℕ → Requests → List ℕ
queue_of key [] = []
queue_of key (r ∷ requests) =
    if bytes_eq key r.1.key then r.0 ∷ queue_of key requests else queue_of key requests

-- the request of a seat
abbrev pub request_of : ℕ → Requests → Option Request
request_of who [] = None
request_of who (r ∷ requests) = if r.0 == who then Some r.1 else request_of who requests

-- the seat's request is another now
abbrev pub with_request : ℕ → Request → Requests → Requests
with_request who request [] = []
with_request who request (r ∷ requests) =
    if r.0 == who then (r.0, request) ∷ requests else r ∷ with_request who request requests

-- the seat has no request any more
abbrev pub without_seat : ℕ → Requests → Requests
without_seat who [] = []
without_seat who (r ∷ requests) = if r.0 == who then requests else r ∷ without_seat who requests

abbrev pub is_first : ℕ → List ℕ → Bool
is_first who [] = false
is_first who (seat ∷ seats) = seat == who

abbrev pub has_lock_by : ℕ → Requests → Option Request → Bool
has_lock_by who requests None = false
has_lock_by who requests (Some request) = is_first who (queue_of request.key requests)

-- the seat has the lock that it wants: it is the first in its key's queue
abbrev pub has_lock : ℕ → Requests → Bool
has_lock who requests = has_lock_by who requests (request_of who requests)

-- ---- the store

pub record World : Type 0 where
  -- no call is made on the disk cache: none was wanted, or its start failed
  pub off : Bool
  -- the disk cache; where the store is off, the history of its files alone
  pub disk : DiskState
  -- what the sources have, where they tell it
  pub content : Option Contents
  pub requests : Requests
