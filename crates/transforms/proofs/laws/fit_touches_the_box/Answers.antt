use Rattle.transforms.proofs.SizeLemmas.{fitted-touches}
use Rattle.transforms.proofs.laws.fit_touches_the_box.Goals as goal

pub returns : goal.returns
returns c = fitted-touches
