use Rattle.std.proofs.Common.{ap, ◌∙◌}
use Rattle.hex.specs.Hex.{encode_lower}
use Rattle.cache_key.proofs.Digits.{is_read}
use Rattle.cache_key.proofs.file_key.safe_key.Goals as goal

pub unwrap-requires : goal.unwrap-requires
unwrap-requires c = is_read _ c.hex_digits-digits.result c.read.result (c.hex_digits-digits.ensures ∙ ap encode_lower c.digest.ensures) c.read.ensures
