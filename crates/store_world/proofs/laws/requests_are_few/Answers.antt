use Rattle.store_world.proofs.Begins.{requests_few, one_more}
use Rattle.store_world.proofs.laws.requests_are_few.Goals as goal

pub returns-clause-few : goal.returns-clause-few
returns-clause-few c = requests_few

pub returns-clause-more : goal.returns-clause-more
returns-clause-more c = one_more
