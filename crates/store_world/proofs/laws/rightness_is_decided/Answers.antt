use Rattle.store_world.proofs.Deciding.{decided_folder, truth_is, truth_holds}
use Rattle.store_world.proofs.laws.rightness_is_decided.Goals as goal

pub returns-clause-folder : goal.returns-clause-folder
returns-clause-folder c content folder = decided_folder content folder

pub returns-clause-truth : goal.returns-clause-truth
returns-clause-truth c told files = truth_is told files

pub returns-clause-right : goal.returns-clause-right
returns-clause-right c told files = truth_holds told files
