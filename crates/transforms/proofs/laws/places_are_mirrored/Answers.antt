use Rattle.transforms.proofs.Mirrors.{column-mirrored, row-mirrored}
use Rattle.transforms.proofs.laws.places_are_mirrored.Goals as goal

pub returns : goal.returns
returns c = record { columns = column-mirrored; rows = row-mirrored }
