-- What contracts see of a store, and what always holds of it. It is this project's own.
use Rattle.std.specs.Prelude.{◌≡◌, ℕ, ◌<◌, true, false, List, [], length, get_or, Some, None}
use Rattle.std.specs.declared.option.Option.{Option}
use Rattle.state_machine.specs.declared.entry.Entry.{Entry}
use Rattle.outside.specs.Content.{Contents}
use Rattle.outside.specs.Files.{FolderHistory}
use Rattle.disk_table.specs.Table.{edit_of}
use Rattle.disk_lru.specs.State.{EditValue, edits}
use Rattle.disk_lru.specs.Past.{DiskState}
use Rattle.store_world.specs.declared.events.StoreEvent.{StoreEvent}
use Rattle.store_world.specs.declared.events.Note.{Note}
use Rattle.store_world.specs.World.{SeatEdit, Request, Requests, World, request_of}
use Rattle.store_world.specs.Knowledge.{knowledge_in}
use Rattle.store_world.specs.Permits.{Permits}
use Rattle.store_world.specs.Sound.{seat_count, Sound}
use Rattle.store_world.specs.StoreMachine.{noted, files_alone}
use Rattle.disk_store.specs.declared.history.Made.{Made}

-- the entry of a step that was made
abbrev pub entry_of : Made → Entry Note
entry_of made = record { by = made.by; note = noted made.event.value made.reply.value }

-- A seat may make an event: it is served, and its own entries permit the event.
pub record MayStep (world : World) (history : List (Entry Note)) (who : ℕ) (event : StoreEvent) : Type 0 where
  pub sound : Sound world (knowledge_in history)
  pub served : who < seat_count
  pub permitted : Permits world.content (knowledge_in history who) event

-- a store that is off, with its files
abbrev pub off_world : Option FolderHistory → ℕ → Option Contents → World
off_world history faults content = record {
  off = true;
  disk = files_alone history faults;
  content = content;
  requests = [];
}

-- ---- the edits that seats have

-- The store keeps the edit of a seat that has one: it is of the key that the seat wants, and open in the disk cache unless a
-- write to it failed.
pub record IsToken (disk : DiskState) (request : Request) (edit : SeatEdit) (kept : Option EditValue) : Type 0 where
  pub token : EditValue
  pub is : kept ≡ Some token
  pub key : token.key ≡ request.key
  pub closed : token.closed ≡ edit.closed
  pub number : edit.closed ≡ false → edit_of request.key (edits disk.cache) ≡ Some token.number

-- each at its seat's number
pub record TokensAgree (disk : DiskState) (requests : Requests) (tokens : List (Option EditValue)) : Type 0 where
  pub places : length tokens ≡ 16
  pub each : (who : ℕ) (request : Request) (edit : SeatEdit) → request_of who requests ≡ Some request
      → request.edit ≡ Some edit → IsToken disk request edit (get_or tokens who None)
