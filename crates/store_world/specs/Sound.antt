-- What holds of the store's state in each moment, whatever its callers do. It is this project's own.
use Rattle.std.specs.Prelude.{◌≡◌, ◌≢◌, ℕ, ◌+◌, ◌<◌, Bool, true, false, List, [], ◌∷◌, length, Some, None, ⊤, if◌then◌else◌, is_some}
use Rattle.std.specs.declared.option.Option.{Option}
use Rattle.std.specs.List.{AllByRecursion}
use Rattle.std.specs.Str.{bytes_eq}
use Rattle.outside.specs.Content.{Contents}
use Rattle.outside.specs.Files.{Folder}
use Rattle.disk_table.specs.UseOrder.{IsOnce}
use Rattle.disk_table.specs.Table.{edit_of}
use Rattle.cache_folder.specs.Offered.{edit_name}
use Rattle.cache_folder.specs.Images.{IfKnown}
use Rattle.cache_folder.specs.Tables.{Table, edit_at}
use Rattle.cache_folder.specs.Sound.{listed, text_at}
use Rattle.cache_folder.specs.Allowed.{values_of}
use Rattle.disk_lru.specs.State.{entries, edits}
use Rattle.disk_lru.specs.Past.{DiskState}
use Rattle.store_world.specs.Right.{AreRight, HoldsRight}
use Rattle.store_world.specs.World.{SeatEdit, Request, Requests, World, request_of}
use Rattle.store_world.specs.Knowledge.{Knowledge}

-- ---- counts

-- 1 where it holds
abbrev pub one_if : Bool → ℕ
one_if true = 1
one_if false = 0

-- how many of the edits' numbers are taken
abbrev pub taken : List (Option (List ℕ)) → ℕ
taken [] = 0
taken (edit ∷ edits) = one_if (is_some edit) + taken edits

-- how many keys are under edit
abbrev pub keys_under_edit : Table → ℕ
keys_under_edit [] = 0
keys_under_edit (e ∷ table) = one_if (is_some e.1.edit) + keys_under_edit table

-- ---- the queues

-- how many seats a store serves; they are numbered from 0
abbrev pub seat_count : ℕ
seat_count = 16

-- each seat has one request at most
abbrev pub IsSeated : Requests → Type 0
IsSeated [] = ⊤
IsSeated (r ∷ requests) = AllByRecursion (λ (s : ℕ × Request). s.0 ≢ r.0) requests × IsSeated requests

-- none was told that it has the lock while another stands before it in the key's queue
abbrev pub IsOrderly : Requests → Type 0
IsOrderly [] = ⊤
IsOrderly (r ∷ requests) =
    AllByRecursion (λ (s : ℕ × Request). s.1.key ≡ r.1.key → s.1.granted ≡ false) requests
    × IsOrderly requests

-- it has an edit only where it was told that it has the lock, and made its Begin
pub record IsHolding (request : Request) : Type 0 where
  pub granted : request.granted ≡ false → request.edit ≡ None
  pub begun : request.begun ≡ false → request.edit ≡ None

-- ---- the edits

abbrev pub open_length_by : Bool → ℕ → Option ℕ
open_length_by true n = None
open_length_by false n = Some n

-- how many bytes were written to an edit that is open
abbrev pub open_length : Option SeatEdit → Option ℕ
open_length None = None
open_length (Some edit) = open_length_by edit.closed (length edit.written)

-- the open edit of a key: that of the first in its queue
abbrev pub open_at : List ℕ → Requests → Option ℕ
open_at key [] = None
open_at key (r ∷ requests) = if bytes_eq key r.1.key then open_length r.1.edit else open_at key requests

-- how many edits are open
abbrev pub open_count : Requests → ℕ
open_count [] = 0
open_count (r ∷ requests) = one_if (is_some (open_length r.1.edit)) + open_count requests

-- The open edits of the disk cache are those of the seats that have the locks.
pub record EditsAgree (disk : DiskState) (requests : Requests) : Type 0 where
  -- by key: their lengths, and whether there is one
  pub lengths : (key : List ℕ) → edit_at key (entries disk.cache) ≡ open_at key requests
  pub numbers : (key : List ℕ) → is_some (edit_of key (edits disk.cache)) ≡ is_some (open_at key requests)
  -- and in number: there are no other
  pub keys : keys_under_edit (entries disk.cache) ≡ open_count requests
  pub taken_are : taken (edits disk.cache) ≡ open_count requests
  pub places : length (edits disk.cache) ≡ 16

-- the file of a request's edit has what was written, where the edit is open
abbrev pub HasFile : Folder → Request → Type 0
HasFile folder request =
    (edit : SeatEdit) → request.edit ≡ Some edit → edit.closed ≡ false
    → text_at folder (edit_name request.key) ≡ edit.written

-- ---- what the disk cache may offer

-- Where the content is told, the files hold what is right, and so does the table keep: also of what is
-- under edit.
pub record IsRightDisk (content : Contents) (disk : DiskState) : Type 0 where
  pub holds : HoldsRight content disk.cache.history
  pub keeps : AreRight content (values_of (listed holds.history.held (entries disk.cache)))

abbrev pub IsRightStore : Option Contents → DiskState → Type 0
IsRightStore None disk = ⊤
IsRightStore (Some content) disk = IsRightDisk content disk

-- ---- all of it

pub record Sound (w : World) (known : ℕ → Knowledge) : Type 0 where
  pub seated : IsSeated w.requests
  pub seats : AllByRecursion (λ (r : ℕ × Request). r.0 < seat_count) w.requests
  pub orderly : IsOrderly w.requests
  pub holding : AllByRecursion (λ (r : ℕ × Request). IsHolding r.1) w.requests
  pub edits_agree : EditsAgree w.disk w.requests
  pub once : IsOnce (entries w.disk.cache)
  pub files : IfKnown w.disk.cache.history (λ h. (who : ℕ) (request : Request)
      → request_of who w.requests ≡ Some request → HasFile h.held request)
  -- what a store that is off has for files is not asked
  pub right : w.off ≡ false → IsRightStore w.content w.disk
  -- no seat of a store that is off wants a lock
  pub off : w.off ≡ true → w.requests ≡ []
  -- what a seat knows of its request is so
  pub known_is : (who : ℕ) → known who ≡ request_of who w.requests
