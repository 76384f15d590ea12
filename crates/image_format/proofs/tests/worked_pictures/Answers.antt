use Rattle.std.specs.Prelude.{refl}
use Rattle.ppm_read.specs.Number.{number_at}
use Rattle.ppm_read.specs.Header.{size_at, maximum_at, head_of}
use Rattle.ppm_read.specs.Raster.{pixels_at}
use Rattle.image_format.specs.Pictures.{planned, decoded}
use Rattle.image_format.proofs.tests.worked_pictures.Goals as goal

pub returns-clause-argb : goal.returns-clause-argb
unfolding planned decoded number_at size_at maximum_at head_of pixels_at
returns-clause-argb c = refl

pub returns-clause-rgb565 : goal.returns-clause-rgb565
unfolding planned decoded number_at size_at maximum_at head_of pixels_at
returns-clause-rgb565 c = refl

pub returns-clause-at_most : goal.returns-clause-at_most
unfolding planned decoded number_at size_at maximum_at head_of pixels_at
returns-clause-at_most c = refl

pub returns-clause-fit : goal.returns-clause-fit
unfolding planned decoded number_at size_at maximum_at head_of pixels_at
returns-clause-fit c = refl

pub returns-clause-unknown : goal.returns-clause-unknown
unfolding planned decoded number_at size_at maximum_at head_of pixels_at
returns-clause-unknown c = refl

pub returns-clause-truncated : goal.returns-clause-truncated
unfolding planned decoded number_at size_at maximum_at head_of pixels_at
returns-clause-truncated c = refl

pub returns-clause-large_target : goal.returns-clause-large_target
unfolding planned decoded number_at size_at maximum_at head_of pixels_at
returns-clause-large_target c = refl
