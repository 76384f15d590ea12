-- The key under which the disk cache keeps what some key bytes stand for: their SHA-256 (FIPS 180-4) in
-- lower-case hex, as Glide's `SafeKeyGenerator` makes it.
use Rattle.std.specs.Prelude.{ℕ, List}
use Rattle.hex.specs.Hex.{encode_lower}
use Rattle.sha2.specs.Sha256.{sha256}

abbrev pub file_key : List ℕ → List ℕ
file_key bytes = encode_lower (sha256 bytes)
