-- What contracts see of a core, and what always holds of it. It is this project's own.
use Rattle.std.specs.Prelude.{ℕ, ◌<◌, List, length}
use Rattle.state_machine.specs.declared.entry.Entry.{Entry}
use Rattle.engine_world.specs.declared.events.Event.{Event}
use Rattle.engine_world.specs.declared.events.Note.{Note}
use Rattle.engine_world.specs.World.{World}
use Rattle.engine_world.specs.Knowledge.{knowledge_in}
use Rattle.engine_world.specs.Permits.{Permits}
use Rattle.engine_world.specs.Sound.{Sound}
use Rattle.engine_world.specs.Rooms.{WithinLimits}
use Rattle.engine_core.specs.declared.replies.Reply.{Reply}
use Rattle.engine_core.specs.declared.history.Made.{Made}
use Rattle.engine_core.specs.Noted.{noted}
use Rattle.engine_core.specs.Opening.{AreServed}

-- the engine's state, and the entries of its steps since it was made, the oldest first
pub record CoreValue : Type 0 where
  pub world : World
  pub history : List (Entry Note)

-- The world is sound with what the seats know by the history, and within its limits, which a core may have.
pub record IsCore (world : World) (history : List (Entry Note)) : Type 0 where
  pub sound : Sound world (knowledge_in history)
  pub within : WithinLimits world
  pub served : AreServed world.limits

-- A seat may make an event: it is served, and its own entries permit the event.
pub record MayStep (world : World) (history : List (Entry Note)) (who : ℕ) (event : Event) : Type 0 where
  pub core : IsCore world history
  pub served : who < length world.limits.quotas
  pub permitted : Permits world.content (knowledge_in history who) event

-- what a history keeps of an event and its reply
abbrev pub note_of : Event → Reply → Note
note_of event reply = record { event = event; reply = noted reply }

-- the entry of a step that was made
abbrev pub entry_of : Made → Entry Note
entry_of made = record { by = made.by; note = note_of made.event.value made.reply.value }
