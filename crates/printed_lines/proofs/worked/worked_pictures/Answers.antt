use Rattle.std.specs.Prelude.{refl}
use Rattle.std.specs.Fmt.{digits}
use Rattle.hex.specs.Hex.{encode_with}
use Rattle.sha2.specs.Sha256.{first_words, schedule, rounds, compress, hash_after, digest_bytes, sha256}
use Rattle.printed_lines.proofs.worked.worked_pictures.Goals as goal

pub returns-clause-pixels : goal.returns-clause-pixels
unfolding digits encode_with first_words schedule rounds compress hash_after digest_bytes sha256
returns-clause-pixels c = refl

pub returns-clause-shown : goal.returns-clause-shown
unfolding digits encode_with first_words schedule rounds compress hash_after digest_bytes sha256
returns-clause-shown c = refl
