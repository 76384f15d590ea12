-- What contracts see of a hold. It is this project's own.
use Rattle.std.specs.Prelude.{ℕ}
use Rattle.cache_key.specs.Key.{Key}

-- its owner's seat, its number among its owner's loads, and the key that was asked for
pub record HoldValue : Type 0 where
  pub who : ℕ
  pub number : ℕ
  pub key : Key
