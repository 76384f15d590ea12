use Rattle.cache_key.specs.KeyLaws.{same_key-is, same_key-of}
use Rattle.cache_key.proofs.keys.same_key_is_equality.Goals as goal

pub returns : goal.returns
returns c a b = (same_key-is a b, same_key-of a b)
