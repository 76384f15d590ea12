-- The store as a machine whose callers take turns: its worlds, its seats, what an event asks of them, its
-- steps, and what it opens with. It is this project's own.
use Rattle.std.specs.Prelude.{◌≡◌, ℕ, false, List, []}
use Rattle.std.specs.declared.option.Option.{Option}
use Rattle.outside.specs.Content.{Contents}
use Rattle.outside.specs.Files.{FolderHistory}
use Rattle.state_machine.specs.declared.entry.Entry.{Entry}
use Rattle.state_machine.specs.declared.machine.Machine.{Ghosts}
use Rattle.disk_table.specs.UseOrder.{IsOnce}
use Rattle.disk_table.specs.Table.{no_entries}
use Rattle.cache_folder.specs.Offered.{offered}
use Rattle.cache_folder.specs.Images.{IfKnown, WasKnown}
use Rattle.cache_folder.specs.Tables.{CacheTableValue}
use Rattle.cache_folder.specs.Sound.{listed}
use Rattle.cache_folder.specs.Starts.{HasNoEdits}
use Rattle.cache_folder.specs.Allowed.{Pass, values_of}
use Rattle.disk_lru.specs.State.{entries}
use Rattle.disk_lru.specs.Past.{DiskState, at_start, is_among}
use Rattle.disk_lru.specs.Started.{OffersNoMore}
use Rattle.store_world.specs.declared.events.StoreEvent.{StoreEvent}
use Rattle.store_world.specs.declared.events.StoreReply.{StoreReply}
use Rattle.store_world.specs.declared.events.Note.{Note}
use Rattle.store_world.specs.Right.{HoldsRightIn}
use Rattle.store_world.specs.World.{World}
use Rattle.store_world.specs.Knowledge.{learned}
use Rattle.store_world.specs.Permits.{Permits}
use Rattle.store_world.specs.Sound.{seat_count}
use Rattle.store_world.specs.Steps.{Step}

-- ---- the opening

-- the disk cache of a store that is off: files on which no call is made
abbrev pub no_table : CacheTableValue
no_table = record { table = no_entries; written = [] }

abbrev pub files_alone : Option FolderHistory → ℕ → DiskState
files_alone history faults = record {
  cache = record {
    history = history;
    faults = faults;
    table = no_table;
    maximum = 0;
    due = false;
  };
  past = at_start history;
}

-- What a store opens with, also one whose start failed: no seat wants a lock, no key is under edit, and
-- what the files offer and the table keeps was offered before, at each moment of the start.
pub record IsOpening (content : Option Contents) (before : Option FolderHistory) (w : World) : Type 0 where
  pub content_is : w.content ≡ content
  pub no_requests : w.requests ≡ []
  pub free : HasNoEdits w.disk.cache.table
  pub once : IsOnce (entries w.disk.cache)
  pub known : WasKnown before w.disk.cache.history
  pub moments : OffersNoMore before w.disk.cache.history
  pub keeps : IfKnown before (λ h. IfKnown w.disk.cache.history (λ k.
      Pass (is_among (offered h.held)) (values_of (listed k.held (entries w.disk.cache)))))

-- where it opens with a disk cache, the files held what is right before
abbrev pub BeganRight : Option Contents → Option FolderHistory → World → Type 0
BeganRight content before w = w.off ≡ false → HoldsRightIn content before

-- ---- the machine

abbrev pub seats_of : World → ℕ
seats_of w = seat_count

-- an event asks no more than what its seat's own entries so far permit
abbrev pub asks : World → ℕ → List (Entry Note) → StoreEvent → Type 0
asks start who own event = Permits start.content (learned own) event

abbrev pub asked : World → ℕ → List (Entry Note) → Note → Type 0
asked start who own note = asks start who own note.event

abbrev pub noted : StoreEvent → StoreReply → Note
noted event reply = record { event = event; reply = reply }

-- what a store of type M stands for, by the world that it opened with, its world now, and the history of
-- its steps
abbrev pub store_machine : {M : Type 0} → (M → World) → (M → World) → (M → List (Entry Note))
    → Ghosts M StoreEvent StoreReply Note
store_machine opening world history = record {
  World = World;
  opening = opening;
  world = world;
  history = history;
  seats = seats_of;
  note = noted;
  asks = asks;
  asked = asked;
  steps = Step;
}
