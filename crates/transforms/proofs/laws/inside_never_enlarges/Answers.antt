use Rattle.transforms.proofs.SizeLemmas.{inside-within}
use Rattle.transforms.proofs.laws.inside_never_enlarges.Goals as goal

pub returns : goal.returns
returns c = record {
  width = λ w h W H source box. (inside-within w h W H source box).0;
  height = λ w h W H source box. (inside-within w h W H source box).1;
}
