use Rattle.transforms.proofs.SizeLemmas.{size-sides}
use Rattle.transforms.proofs.laws.targets_have_pixels.Goals as goal

pub returns : goal.returns
returns c = size-sides
