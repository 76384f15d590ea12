use Rattle.random_events.specs.Teams.{AreSeatsOf}
use Rattle.random_events.proofs.events.Given as goal

abbrev pub invariant-draws : goal.invariant-draws
invariant-draws l = AreSeatsOf l.core l.team
