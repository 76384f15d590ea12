use Rattle.store_world.proofs.Histories.{runs_stay_right}
use Rattle.store_world.proofs.laws.folders_stay_right.Goals as goal

pub returns : goal.returns
returns g c opening now history = runs_stay_right opening now history
