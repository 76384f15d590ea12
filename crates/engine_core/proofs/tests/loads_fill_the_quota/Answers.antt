use Rattle.engine_core.proofs.tests.loads_fill_the_quota.Goals as goal

pub returns-clause-keeps : goal.returns-clause-keeps
returns-clause-keeps c = λ who served. c.load-third.ensures.keeps who (c.load-second.ensures.keeps who (c.load-first.ensures.keeps who served))
