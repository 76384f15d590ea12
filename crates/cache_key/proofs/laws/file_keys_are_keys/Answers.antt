use Rattle.cache_key.proofs.Digits.{file_key_is_key}
use Rattle.cache_key.proofs.laws.file_keys_are_keys.Goals as goal

pub returns : goal.returns
returns c bytes = file_key_is_key bytes
