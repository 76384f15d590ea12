use Rattle.image_format.proofs.RawTexts.{one_picture}
use Rattle.image_format.proofs.raw.raw_form_is_of_one_picture.Goals as goal

pub returns : goal.returns
returns c = one_picture
