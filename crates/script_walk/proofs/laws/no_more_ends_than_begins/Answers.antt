use Rattle.script_walk.proofs.Totals.{ends_are_begun}
use Rattle.script_walk.proofs.laws.no_more_ends_than_begins.Goals as goal

pub returns : goal.returns
returns c = ends_are_begun
