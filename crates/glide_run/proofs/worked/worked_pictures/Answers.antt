use Rattle.std.specs.Prelude.{Ok, [], ◌∷◌, codes, refl}
use Rattle.std.proofs.Common.{ap}
use Rattle.std.specs.Fmt.{digits}
use Rattle.hex.specs.Hex.{encode_with}
use Rattle.sha2.specs.Sha256.{first_words, schedule, rounds, compress, hash_after, digest_bytes, sha256}
use Rattle.ppm_read.specs.Number.{number_at}
use Rattle.ppm_read.specs.Header.{size_at, maximum_at, head_of}
use Rattle.ppm_read.specs.Raster.{pixels_at}
use Rattle.image_format.specs.Pictures.{planned, decoded}
use Rattle.script_lines.specs.Script.{script_of}
use Rattle.glide_run.specs.Worked.{load_a}
use Rattle.glide_run.proofs.WorkedAnswers.{comes_to, red_end, red_picture}
use Rattle.glide_run.proofs.worked.worked_pictures.Goals as goal

pub returns-clause-dumped : goal.returns-clause-dumped
unfolding planned decoded script_of encode_with digits number_at size_at maximum_at head_of pixels_at
returns-clause-dumped c content e =
    comes_to c.ends_decide_the_walk.ensures content (load_a ∷ codes "dump a" ∷ [])
    (codes "a pixels ff0000ff0000ffff" ∷ []) 0 (Ok red_picture) (ap red_end e, tt) refl refl

pub returns-clause-shown : goal.returns-clause-shown
unfolding planned decoded script_of encode_with digits number_at size_at maximum_at head_of pixels_at first_words schedule rounds compress hash_after digest_bytes sha256
returns-clause-shown c content e =
    comes_to c.ends_decide_the_walk.ensures content (load_a ∷ codes "show" ∷ [])
    (codes "a shown 2 1 argb e0b8f3a91e53b2aee7be9493043f0d54efa0b1d7bfa018ea8f192295a7229836" ∷ []) 0 (Ok red_picture) (ap red_end e, tt) refl refl

pub returns-clause-silent : goal.returns-clause-silent
unfolding planned decoded script_of encode_with digits number_at size_at maximum_at head_of pixels_at
returns-clause-silent c content e =
    comes_to c.ends_decide_the_walk.ensures content (load_a ∷ codes "wait" ∷ [])
    ([]) 0 (Ok red_picture) (ap red_end e, tt) refl refl
