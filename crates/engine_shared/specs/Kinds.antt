-- Kinds of events. It is this project's own.
use Rattle.std.specs.Prelude.{⊤}
use Rattle.engine_world.specs.declared.events.Event.{Event}
use Rattle.engine_world.specs.declared.events.Event.TheVariants as events

-- Any event but a load.
abbrev pub IsNoLoad : Event → Type 0
IsNoLoad (events.Load spec) = ⊥
IsNoLoad event = ⊤

-- An event that is of no job.
abbrev pub IsOfNoJob : Event → Type 0
IsOfNoJob (events.NextJob room) = ⊥
IsOfNoJob (events.Take j width height config) = ⊥
IsOfNoJob (events.GiveBack j bitmap) = ⊥
IsOfNoJob (events.Finish j bitmap) = ⊥
IsOfNoJob (events.Fail j cause) = ⊥
IsOfNoJob (events.Quit j) = ⊥
IsOfNoJob (events.IsCancelled j) = ⊥
IsOfNoJob event = ⊤

-- An event by which a job ends.
abbrev pub EndsJob : Event → Type 0
EndsJob (events.Finish j bitmap) = ⊤
EndsJob (events.Fail j cause) = ⊤
EndsJob (events.Quit j) = ⊤
EndsJob event = ⊥
