use Rattle.std.specs.Prelude.{Ok, [], ◌∷◌, codes, refl}
use Rattle.std.proofs.Common.{ap}
use Rattle.std.specs.Fmt.{digits}
use Rattle.hex.specs.Hex.{encode_with}
use Rattle.ppm_read.specs.Number.{number_at}
use Rattle.ppm_read.specs.Header.{size_at, maximum_at, head_of}
use Rattle.ppm_read.specs.Raster.{pixels_at}
use Rattle.image_format.specs.Pictures.{planned, decoded}
use Rattle.script_lines.specs.Script.{script_of}
use Rattle.glide_run.specs.Worked.{load_a}
use Rattle.glide_run.proofs.WorkedAnswers.{comes_to, red_end, red_picture}
use Rattle.glide_run.proofs.worked.worked_pause.Goals as goal

pub returns : goal.returns
unfolding planned decoded script_of encode_with digits number_at size_at maximum_at head_of pixels_at
returns c content e =
    comes_to c.ends_decide_the_walk.ensures content (load_a ∷ codes "pause" ∷ codes "show" ∷ codes "resume" ∷ codes "dump a" ∷ [])
    (codes "a paused" ∷ codes "a pixels ff0000ff0000ffff" ∷ []) 0 (Ok red_picture) (ap red_end e, tt) refl refl
