use Rattle.engine_world.proofs.Limits.{limits_law, opens_within}
use Rattle.engine_world.proofs.laws.each_event_keeps_limits.Goals as goal

pub returns-clause-event : goal.returns-clause-event
returns-clause-event c event = limits_law event

pub returns-clause-opening : goal.returns-clause-opening
returns-clause-opening c = opens_within
