use Rattle.engine_views.proofs.QuietCalls.{quiet_calls, alone}
use Rattle.engine_views.proofs.laws.quiet_calls_leave_views.Goals as goal

pub returns-clause-quiet : goal.returns-clause-quiet
returns-clause-quiet c =
    quiet_calls c.each_event_keeps_opening.ensures c.failures_add_up.ensures.runs c.failures_add_up.ensures.entry

pub returns-clause-alone : goal.returns-clause-alone
returns-clause-alone c = alone c.each_event_keeps_opening.ensures
