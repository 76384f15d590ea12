-- Events that ask nothing. It is this project's own.
use Rattle.engine_world.specs.declared.events.Event.{Event}
use Rattle.engine_world.specs.declared.events.Event.TheVariants as events

-- Every seat may make it at any time, and learns nothing of its loads and its job by it.
abbrev pub IsFree : Event → Type 0
IsFree (events.Trim level) = Unit {0}
IsFree events.Close = Unit {0}
IsFree events.Totals = Unit {0}
IsFree event = ⊥
