-- That counts, loads and jobs keep to their limits, and that the tables' rooms suffice. It is this project's own.
use Rattle.std.specs.Prelude.{ℕ, ◌<◌, List, length}
use Rattle.std.specs.declared.option.Option.{Option}
use Rattle.outside.specs.Content.{Contents}
use Rattle.state_machine.specs.declared.entry.Entry.{Entry}
use Rattle.state_machine.specs.Legal.{IsLegal}
use Rattle.engine_world.specs.declared.events.Event.{Event}
use Rattle.engine_world.specs.declared.events.NotedReply.{NotedReply}
use Rattle.engine_world.specs.declared.events.Note.{Note}
use Rattle.engine_world.specs.World.{Limits, World, opening}
use Rattle.engine_world.specs.Steps.{Transition}
use Rattle.engine_world.specs.Knowledge.{Knowledge}
use Rattle.engine_world.specs.Permits.{Permits}
use Rattle.engine_world.specs.Sound.{Sound}
use Rattle.engine_world.specs.EngineMachine.{engine_machine}
use Rattle.engine_world.specs.Rooms.{WithinLimits, FitsRooms}

-- From a sound world within its limits, an event that its seat is permitted leaves one within them.
abbrev pub KeepsLimits : Event → Type 0
KeepsLimits event = (w z : World) (known : ℕ → Knowledge) (who : ℕ) (reply : NotedReply)
    → who < length w.limits.quotas → Sound w known → Permits w.content (known who) event
    → WithinLimits w → Transition w who event reply z → WithinLimits z

-- And so is the world that an engine begins with.
abbrev pub OpensWithinLimits : Type 0
OpensWithinLimits = (limits : Limits) (content : Option Contents) → WithinLimits (opening limits content)

-- A sound world within its limits needs no more room than the quotas say.
abbrev pub NeedsNoMoreRoom : Type 0
NeedsNoMoreRoom = (w : World) (known : ℕ → Knowledge) → Sound w known → WithinLimits w → FitsRooms w

-- Whatever the seats were answered, by entries of which each asked no more than it might, the world is
-- within its limits; this for each kind of engine that is shown somehow.
abbrev pub HistoriesKeepLimits : (M Reply : Type 0) → Type 0
HistoriesKeepLimits M Reply =
    (world : M → World) (history : M → List (Entry Note)) (note : Event → Reply → Note)
    (limits : Limits) (content : Option Contents) (past : List (Entry Note)) (w : World)
    → IsLegal (engine_machine world history note) (opening limits content) past w → WithinLimits w
