use Rattle.std.specs.Prelude.{refl}
use Rattle.ppm_read.specs.Number.{number_at}
use Rattle.ppm_read.specs.Header.{size_at, maximum_at, head_of}
use Rattle.ppm_read.specs.Raster.{pixels_at}
use Rattle.ppm_read.proofs.tests.worked_texts.Goals as goal

pub returns-clause-raw_colour : goal.returns-clause-raw_colour
unfolding number_at size_at maximum_at head_of pixels_at
returns-clause-raw_colour c = refl

pub returns-clause-raw_grey : goal.returns-clause-raw_grey
unfolding number_at size_at maximum_at head_of pixels_at
returns-clause-raw_grey c = refl

pub returns-clause-plain_colour : goal.returns-clause-plain_colour
unfolding number_at size_at maximum_at head_of pixels_at
returns-clause-plain_colour c = refl

pub returns-clause-two_bytes : goal.returns-clause-two_bytes
unfolding number_at size_at maximum_at head_of pixels_at
returns-clause-two_bytes c = refl

pub returns-clause-bytes_after : goal.returns-clause-bytes_after
unfolding number_at size_at maximum_at head_of pixels_at
returns-clause-bytes_after c = refl

pub returns-clause-short : goal.returns-clause-short
unfolding number_at size_at maximum_at head_of pixels_at
returns-clause-short c = refl

pub returns-clause-open_comment : goal.returns-clause-open_comment
unfolding number_at size_at maximum_at head_of pixels_at
returns-clause-open_comment c = refl

pub returns-clause-great_number : goal.returns-clause-great_number
unfolding number_at size_at maximum_at head_of pixels_at
returns-clause-great_number c = refl

pub returns-clause-comment_before_samples : goal.returns-clause-comment_before_samples
unfolding number_at size_at maximum_at head_of pixels_at
returns-clause-comment_before_samples c = refl

pub returns-clause-no_width : goal.returns-clause-no_width
unfolding number_at size_at maximum_at head_of pixels_at
returns-clause-no_width c = refl

pub returns-clause-great_maximum : goal.returns-clause-great_maximum
unfolding number_at size_at maximum_at head_of pixels_at
returns-clause-great_maximum c = refl

pub returns-clause-above : goal.returns-clause-above
unfolding number_at size_at maximum_at head_of pixels_at
returns-clause-above c = refl

pub returns-clause-unknown : goal.returns-clause-unknown
unfolding number_at size_at maximum_at head_of pixels_at
returns-clause-unknown c = refl

pub returns-clause-greatest_number : goal.returns-clause-greatest_number
unfolding number_at size_at maximum_at head_of pixels_at
returns-clause-greatest_number c = refl

pub returns-clause-greatest_maximum : goal.returns-clause-greatest_maximum
unfolding number_at size_at maximum_at head_of pixels_at
returns-clause-greatest_maximum c = refl
