use Rattle.engine_shared.proofs.Pictures.{shows_its_picture, shows_one_picture}
use Rattle.engine_shared.proofs.laws.holds_show_one_picture.Goals as goal

pub returns : goal.returns
returns c = record { right = shows_its_picture c.engine_laws.ensures; one = shows_one_picture c.engine_laws.ensures }
