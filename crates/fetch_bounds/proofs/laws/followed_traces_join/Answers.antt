use Rattle.fetch_bounds.proofs.Parts.{traces_join}
use Rattle.fetch_bounds.proofs.laws.followed_traces_join.Goals as goal

pub returns : goal.returns
returns c = traces_join
