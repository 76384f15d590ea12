use Rattle.transforms.proofs.SizeLemmas.{size-same}
use Rattle.transforms.proofs.KeptSizes.{moved_kept}
use Rattle.transforms.proofs.laws.wanted_size_moves_nothing.Goals as goal

pub returns : goal.returns
returns c transform picture sides whole = moved_kept transform picture picture.width picture.height sides whole (size-same transform picture.width picture.height sides.wide sides.high)
