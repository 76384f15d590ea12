-- Names of files: this project's own rule, by which each of them is a name on every system that a folder may
-- stand on.
use Rattle.std.specs.Prelude.{◌≡◌, ℕ, ◌-◌, ◌<◌, ◌≤◌, List, ◌++◌, length, take}
use Rattle.std.specs.Str.{IsAscii}
use lib.ListN.{replicate}
use Rattle.std.proofs.Common.{sym, arith}
use Rattle.std.proofs.lemmas.List.{length-take-le}

-- the most bytes that a name has
abbrev pub name_limit : ℕ
name_limit = 128

-- 1 to 128 bytes of ASCII
pub record IsName (bytes : List ℕ) : Type 0 where
  pub some : 0 < length bytes
  pub short : length bytes ≤ name_limit
  pub ascii : IsAscii bytes

-- ---- the array that keeps a name

-- the bytes, and zeros up to the size of the array
abbrev pub padded : List ℕ → List ℕ
padded bytes = bytes ++ replicate (128 - length bytes) 0

-- so many bytes of the array are a name, and the others are zeros
pub record KeepsName (bytes : List ℕ) (count : ℕ) : Type 0 where
  pub size : length bytes ≡ 128
  pub fits : count ≤ 128
  pub zeros : bytes ≡ padded (take count bytes)
  pub name : IsName (take count bytes)

-- such an array is its name's bytes with zeros, so the name gives it back
pub padded_back : (bytes : List ℕ) (count : ℕ) → KeepsName bytes count
    → (padded (take count bytes) ≡ bytes) × (length (take count bytes) ≡ count)
padded_back bytes count kept =
    (sym kept.zeros, length-take-le count bytes (omega (arith, kept.size, kept.fits)))
