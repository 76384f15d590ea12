-- The engine as a machine whose callers take turns: its worlds, its seats, what an event asks of them,
-- and its steps. It is this project's own.
use Rattle.std.specs.Prelude.{ℕ, List, length}
use Rattle.state_machine.specs.declared.entry.Entry.{Entry}
use Rattle.state_machine.specs.declared.machine.Machine.{Ghosts}
use Rattle.engine_world.specs.declared.events.Event.{Event}
use Rattle.engine_world.specs.declared.events.Note.{Note}
use Rattle.engine_world.specs.World.{World, opening}
use Rattle.engine_world.specs.Knowledge.{learned}
use Rattle.engine_world.specs.Permits.{Permits}
use Rattle.engine_world.specs.Steps.{Step}

-- the world that an engine began with: no step changes the limits or the content
abbrev pub opening_of : World → World
opening_of w = opening w.limits w.content

-- it serves as many seats as it has quotas
abbrev pub seats_of : World → ℕ
seats_of w = length w.limits.quotas

-- an event asks no more than what its seat's own entries so far permit
abbrev pub asks : World → ℕ → List (Entry Note) → Event → Type 0
asks start who own event = Permits start.content (learned own) event

abbrev pub asked : World → ℕ → List (Entry Note) → Note → Type 0
asked start who own note = asks start who own note.event

-- what an engine of type M stands for, by its world and the history of its steps; what it replies is
-- noted so
abbrev pub engine_machine : {M Reply : Type 0} → (M → World) → (M → List (Entry Note))
    → (Event → Reply → Note) → Ghosts M Event Reply Note
engine_machine world history note = record {
  World = World;
  opening = λ m. opening_of (world m);
  world = world;
  history = history;
  seats = seats_of;
  note = note;
  asks = asks;
  asked = asked;
  steps = Step;
}
