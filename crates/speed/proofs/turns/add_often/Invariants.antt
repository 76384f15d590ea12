use Rattle.turn_lock.specs.Turns.{IsSeatOf}
use Rattle.speed.proofs.turns.add_often.Given as goal

abbrev pub invariant-loop : goal.invariant-loop
invariant-loop g l = IsSeatOf l.turn l.seat
