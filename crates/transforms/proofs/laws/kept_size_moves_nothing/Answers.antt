use Rattle.transforms.proofs.KeptSizes.{moved_kept}
use Rattle.transforms.proofs.laws.kept_size_moves_nothing.Goals as goal

pub returns : goal.returns
returns c = moved_kept
