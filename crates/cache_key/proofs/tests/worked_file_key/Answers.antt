use Rattle.std.specs.Prelude.{refl}
use Rattle.hex.specs.Hex.{encode_with}
use Rattle.sha2.specs.Sha256.{first_words, schedule, rounds, compress, hash_after, digest_bytes, sha256}
use Rattle.cache_key.proofs.tests.worked_file_key.Goals as goal

pub returns : goal.returns
unfolding encode_with first_words schedule rounds compress hash_after digest_bytes sha256
returns c = refl
