use Rattle.sampling.proofs.UnderOne.{picture_one}
use Rattle.sampling.proofs.picture.one_keeps_the_picture.Goals as goal

pub returns : goal.returns
returns c = picture_one
