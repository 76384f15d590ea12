use Rattle.std.proofs.Common.{inl, refl}
use Rattle.engine_world.specs.Knowledge.{knowledge_with}
use Rattle.fetch_bounds.proofs.worked.worked_failure.Goals as goal

pub returns-clause-failed : goal.returns-clause-failed
unfolding knowledge_with
returns-clause-failed c = refl

pub returns-clause-has : goal.returns-clause-has
unfolding knowledge_with
returns-clause-has c = inl (refl, refl, refl)

pub returns-clause-address : goal.returns-clause-address
unfolding knowledge_with
returns-clause-address c = refl
