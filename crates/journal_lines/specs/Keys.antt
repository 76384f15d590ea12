-- Keys of a disk cache: those of DiskLruCache, `[a-z0-9_-]{1,120}`.
use Rattle.std.specs.Prelude.{◌≡◌, ℕ, ◌-◌, ◌≤◌, true, Bool, ◌&&◌, ◌||◌, ◌==◌, nat_le, List, ◌++◌, length, take, Some, None, if◌then◌else◌}
use Rattle.std.specs.declared.option.Option.{Option}
use Rattle.std.specs.List.{list_all}
use lib.ListN.{replicate}
use Rattle.std.proofs.Common.{sym, arith}
use Rattle.std.proofs.lemmas.List.{length-take-le}

-- a letter from `a` to `z`, a digit, `_` or `-`
abbrev pub is_key_byte : ℕ → Bool
is_key_byte b = nat_le 97 b && nat_le b 122 || nat_le 48 b && nat_le b 57 || b == 95 || b == 45

-- 1 to 120 such bytes
abbrev pub is_key : List ℕ → Bool
is_key bytes = nat_le 1 (length bytes) && nat_le (length bytes) 120 && list_all is_key_byte bytes

-- the key of these bytes, where they are one
abbrev pub key_of : List ℕ → Option (List ℕ)
key_of bytes = if is_key bytes then Some bytes else None

-- ---- the array that keeps a key

-- the bytes, and zeros up to the size of the array
abbrev pub padded : List ℕ → List ℕ
padded bytes = bytes ++ replicate (120 - length bytes) 0

-- so many bytes of the array are a key, and the others are zeros
pub record KeepsKey (bytes : List ℕ) (count : ℕ) : Type 0 where
  pub size : length bytes ≡ 120
  pub fits : count ≤ 120
  pub zeros : bytes ≡ padded (take count bytes)
  pub key : is_key (take count bytes) ≡ true

-- such an array is its key's bytes with zeros, so the key gives it back
pub padded_back : (bytes : List ℕ) (count : ℕ) → KeepsKey bytes count → (padded (take count bytes) ≡ bytes) × (length (take count bytes) ≡ count)
padded_back bytes count kept = (sym kept.zeros, length-take-le count bytes (omega (arith, kept.size, kept.fits)))
