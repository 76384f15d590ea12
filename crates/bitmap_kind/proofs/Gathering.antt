-- Pixels from other places, one after the other.
use Rattle.std.proofs.Common.{◌≡◌, ℕ, ◌+◌, ◌*◌, ◌<◌, List, [], ◌∷◌, ◌++◌, length, take, get_or, sym, ap, ◌∙◌, arith}
use borrow.Rule.Slice.PartMut.{put_mid}
use Rattle.std.specs.List.{flat_map}
use Rattle.std.proofs.lemmas.Nat.{mul-le}
use Rattle.std.proofs.lemmas.List.{take_more, append-nil}
use Rattle.std.proofs.lemmas.Slice.{take-put_mid}
use Rattle.std.proofs.lemmas.Grind.{flat_map-append}

next_place : (i n : ℕ) → (i + 1) * n ≡ i * n + n
next_place i n = omega arith

-- one pixel more
pub gather_more : (f : ℕ → List ℕ) (columns into piece : List ℕ) (i n k : ℕ) → i < length columns → length into ≡ length columns * n → length piece ≡ n → piece ≡ f (get_or columns i 0)
    → take (i * n) into ≡ flat_map f (take i columns) → take ((i + 1) * n) (put_mid (i * n) k into piece) ≡ flat_map f (take (i + 1) columns)
gather_more f columns into piece i n k lt room len is before =
    take-put_mid (i * n) k into piece ((i + 1) * n) (next_place i n ∙ ap (λ j. i * n + j) (sym len)) (rw room (mul-le i n (length columns) n (omega arith) (omega arith)))
    ∙ (λ j. before j ++ is j)
    ∙ sym (ap (flat_map f) (take_more columns i 0 lt) ∙ flat_map-append f (take i columns) (get_or columns i 0 ∷ []) ∙ ap (λ l. flat_map f (take i columns) ++ l) (append-nil (f (get_or columns i 0))))
