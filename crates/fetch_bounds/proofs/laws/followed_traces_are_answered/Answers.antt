use Rattle.fetch_bounds.proofs.Answered.{orders_are_the_traces, ends_are_answered, lines_are_answered}
use Rattle.fetch_bounds.proofs.laws.followed_traces_are_answered.Goals as goal

pub returns-clause-orders : goal.returns-clause-orders
returns-clause-orders c = orders_are_the_traces

pub returns-clause-ends : goal.returns-clause-ends
returns-clause-ends c = ends_are_answered

pub returns-clause-lines : goal.returns-clause-lines
returns-clause-lines c = lines_are_answered
