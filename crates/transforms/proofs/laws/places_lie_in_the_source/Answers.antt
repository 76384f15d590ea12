use Rattle.transforms.proofs.Lines.{column-below, row-below}
use Rattle.transforms.proofs.laws.places_lie_in_the_source.Goals as goal

pub returns : goal.returns
returns c = record { columns = column-below; rows = row-below }
