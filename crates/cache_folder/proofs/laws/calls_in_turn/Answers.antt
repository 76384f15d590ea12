use Rattle.cache_folder.proofs.OnTheWay as way
use Rattle.cache_folder.proofs.laws.calls_in_turn.Goals as goal

pub returns-clause-step : goal.returns-clause-step
returns-clause-step c = way.one_step

pub returns-clause-turn : goal.returns-clause-turn
returns-clause-turn c = way.calls_in_turn
