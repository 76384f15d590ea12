use Rattle.std.specs.Prelude.{Ok, Err, [], ◌∷◌, codes, refl}
use Rattle.std.proofs.Common.{ap}
use Rattle.std.specs.Fmt.{digits}
use Rattle.hex.specs.Hex.{encode_with}
use Rattle.ppm_read.specs.Number.{number_at}
use Rattle.ppm_read.specs.Header.{size_at, maximum_at, head_of}
use Rattle.ppm_read.specs.Raster.{pixels_at}
use Rattle.image_format.specs.Pictures.{planned, decoded}
use Rattle.load_cause.specs.declared.causes.Cause.TheVariants.{Missing}
use Rattle.script_lines.specs.Script.{script_of}
use Rattle.glide_run.specs.Worked.{load_a}
use Rattle.glide_run.proofs.WorkedAnswers.{comes_to, red_end, red_picture}
use Rattle.glide_run.proofs.worked.worked_bad_lines.Goals as goal

pub returns-clause-bad : goal.returns-clause-bad
unfolding planned decoded script_of encode_with digits number_at size_at maximum_at head_of pixels_at
returns-clause-bad c content e =
    comes_to c.ends_decide_the_walk.ensures content (load_a ∷ codes "# shown" ∷ codes "dump a" ∷ codes "dumb a" ∷ codes "dump a" ∷ [])
    (codes "a pixels ff0000ff0000ffff" ∷ codes "glide: bad script line 4" ∷ []) 3 (Ok red_picture) (ap red_end e, tt) refl refl

pub returns-clause-unknown : goal.returns-clause-unknown
unfolding planned decoded script_of encode_with digits number_at size_at maximum_at head_of pixels_at
returns-clause-unknown c content e =
    comes_to c.ends_decide_the_walk.ensures content (codes "dump z" ∷ [])
    (codes "glide: bad script line 1" ∷ []) 3 (Err Missing) tt refl refl

pub returns-clause-not_built : goal.returns-clause-not_built
unfolding planned decoded script_of encode_with digits number_at size_at maximum_at head_of pixels_at
returns-clause-not_built c content e =
    comes_to c.ends_decide_the_walk.ensures content (load_a ∷ codes "dump a" ∷ codes "load a red 1 2 1 none argb cached" ∷ codes "dump a" ∷ [])
    (codes "a pixels ff0000ff0000ffff" ∷ codes "glide: bad script line 3" ∷ []) 3 (Ok red_picture) (ap red_end e, tt) refl refl
