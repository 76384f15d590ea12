use Rattle.std.specs.Prelude.{Err, [], ◌∷◌, codes, refl}
use Rattle.std.proofs.Common.{ap}
use Rattle.std.specs.Fmt.{digits}
use Rattle.hex.specs.Hex.{encode_with}
use Rattle.ppm_read.specs.Number.{number_at}
use Rattle.ppm_read.specs.Header.{size_at, maximum_at, head_of}
use Rattle.ppm_read.specs.Raster.{pixels_at}
use Rattle.image_format.specs.Pictures.{planned, decoded}
use Rattle.image_format.specs.declared.refusal.Refusal.TheVariants.{Unknown}
use Rattle.load_cause.specs.declared.causes.Cause.TheVariants.{Missing, Refused}
use Rattle.script_lines.specs.Script.{script_of}
use Rattle.glide_run.specs.Worked.{load_a}
use Rattle.glide_run.proofs.WorkedAnswers.{comes_to, red_end}
use Rattle.glide_run.proofs.worked.worked_failures.Goals as goal

pub returns-clause-missing : goal.returns-clause-missing
unfolding planned decoded script_of encode_with digits number_at size_at maximum_at head_of pixels_at
returns-clause-missing c content e =
    comes_to c.ends_decide_the_walk.ensures content (load_a ∷ codes "dump a" ∷ [])
    (codes "a failed missing" ∷ []) 1 (Err Missing) (ap red_end e, tt) refl refl

pub returns-clause-refused : goal.returns-clause-refused
unfolding planned decoded script_of encode_with digits number_at size_at maximum_at head_of pixels_at
returns-clause-refused c content e =
    comes_to c.ends_decide_the_walk.ensures content (load_a ∷ codes "dump a" ∷ [])
    (codes "a failed refused unknown" ∷ []) 1 (Err (Refused Unknown)) (ap red_end e, tt) refl refl

pub returns-clause-unprinted : goal.returns-clause-unprinted
unfolding planned decoded script_of encode_with digits number_at size_at maximum_at head_of pixels_at
returns-clause-unprinted c content e =
    comes_to c.ends_decide_the_walk.ensures content (load_a ∷ codes "wait" ∷ [])
    ([]) 0 (Err Missing) (ap red_end e, tt) refl refl
