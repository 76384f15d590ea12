use Rattle.engine_views.proofs.Releases.{releases_end_walks}
use Rattle.engine_views.proofs.laws.releases_end_walks.Goals as goal

pub returns : goal.returns
returns c = releases_end_walks
