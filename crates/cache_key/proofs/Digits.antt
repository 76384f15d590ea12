-- The hex digits of a digest are a key of the disk cache.
use Rattle.std.proofs.Common.{◌≡◌, ℕ, zero, suc, slice_index, Bool, true, ◌&&◌, nat_le, nat_lt, ◌/◌, ◌%◌, ◌^◌, ◌<◌, List, [], ◌∷◌, length, IsSome, Some, None, is_some, if◌then◌else◌, refl, ap, ◌∙◌, arith, lt-ltb, ltb-true}
use Rattle.std.specs.declared.option.Option.{Option}
use Rattle.std.specs.Int.{w32, to_be_bytes}
use Rattle.std.specs.List.{list_all}
use Rattle.std.proofs.lemmas.Bool.{and_from, and_parts}
use Rattle.std.proofs.lemmas.List.Folds.{list_all-append}
use Rattle.std.proofs.lemmas.List.Sums.{AllPass-from_list_all}
use Rattle.hex.specs.Hex.{lower_digits, encode_with, encode_lower}
use Rattle.hex.proofs.HexLemmas.{length-encode_with}
use Rattle.sha2.specs.Sha256.{digest_bytes, sha256}
use Rattle.sha2.proofs.Facts256.{length-sha256}
use Rattle.journal_lines.specs.Keys.{is_key_byte, is_key, key_of}
use Rattle.cache_key.specs.FileKey.{file_key}

-- ---- a digest has bytes

abbrev is_byte : ℕ → Bool
is_byte n = nat_lt n 256

byte : (n : ℕ) → is_byte (n % 256) ≡ true
byte n = lt-ltb (n % 256) 256 (omega arith)

word_bytes : (n : ℕ) → list_all is_byte (to_be_bytes w32 n) ≡ true
word_bytes n = and_from _ _ (byte (n / 256 ^ 3)) (and_from _ _ (byte (n / 256 ^ 2)) (and_from _ _ (byte (n / 256 ^ 1)) (and_from _ _ (byte n) refl)))

hash_bytes : (words : List ℕ) (n : ℕ) → list_all is_byte (digest_bytes words n) ≡ true
unfolding digest_bytes
hash_bytes words zero = refl
hash_bytes words (suc n) = list_all-append is_byte (digest_bytes words n) _ ∙ and_from _ _ (hash_bytes words n) (word_bytes (slice_index words n))

bytes_of_digest : (text : List ℕ) → list_all is_byte (sha256 text) ≡ true
unfolding sha256
bytes_of_digest text = hash_bytes _ 8

-- ---- their digits

-- each of the sixteen
digit : (d : ℕ) → d < 16 → is_key_byte (slice_index lower_digits d) ≡ true
digit d small = AllPass-from_list_all is_key_byte lower_digits refl d 0 small

digits : (bytes : List ℕ) → list_all is_byte bytes ≡ true → list_all is_key_byte (encode_lower bytes) ≡ true
unfolding encode_with
digits [] small = refl
digits (b ∷ rest) small =
    let parts = and_parts (is_byte b) (list_all is_byte rest) small in
    let fits : b < 256 = ltb-true b 256 parts.0 in
    and_from _ _ (digit (b / 16) (omega (arith, fits))) (and_from _ _ (digit (b % 16) (omega arith)) (digits rest parts.1))

-- ---- file keys

fits : (n : ℕ) → n ≡ 64 → (nat_le 1 n && nat_le n 120) ≡ true
fits n count = ap (λ m. nat_le 1 m && nat_le m 120) count

-- 32 bytes have 64 digits
pub file_key_is_key : (bytes : List ℕ) → is_key (file_key bytes) ≡ true
file_key_is_key bytes =
    let count : length (file_key bytes) ≡ 64 = omega (arith, length-encode_with lower_digits (sha256 bytes), length-sha256 bytes) in
    and_from _ _ (fits (length (file_key bytes)) count) (digits (sha256 bytes) (bytes_of_digest bytes))

-- so its text is read as a key
pub is_read : (bytes text : List ℕ) (read : Option (List ℕ)) → text ≡ file_key bytes → read ≡ key_of text → IsSome read
is_read bytes text read spelled is =
    let key : is_key text ≡ true = ap is_key spelled ∙ file_key_is_key bytes in
    ap is_some is ∙ ap (λ b. is_some (if b then Some text else None)) key
