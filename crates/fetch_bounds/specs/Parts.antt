-- That a history may follow a trace part by part, as a program makes it line by line. This project's own.
use Rattle.std.specs.Prelude.{List, [], ◌∷◌, ◌++◌}
use Rattle.state_machine.specs.declared.entry.Entry.{Entry}
use Rattle.engine_world.specs.declared.events.Note.{Note}
use Rattle.script_walk.specs.Walk.{Begin, TraceEvent, Begun}
use Rattle.fetch_bounds.specs.Follows.{Follows}

-- the begins after these events, the last one first
abbrev pub begins_after : List Begin → List TraceEvent → List Begin
begins_after begun [] = begun
begins_after begun (Begun begin others ∷ events) = begins_after (begin ∷ begun) events
begins_after begun (event ∷ events) = begins_after begun events

-- A history that follows some events, and then one that follows more from there on, follow both together.
abbrev pub TracesJoin : Type 0
TracesJoin = (begun : List Begin) (first second : List TraceEvent) (past later : List (Entry Note))
    → Follows begun first past → Follows (begins_after begun first) second later
    → Follows begun (first ++ second) (past ++ later)
