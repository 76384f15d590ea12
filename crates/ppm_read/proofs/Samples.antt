-- Samples, one after another.
use Rattle.std.proofs.Common.{◌≡◌, ℕ, zero, suc, ◌+◌, ◌*◌, ◌<◌, ◌≤◌, ◌||◌, Bool, true, false, ltb, List, [], ◌∷◌, length, get_or, refl, ap, ◌∙◌, arith}
use Rattle.std.proofs.lemmas.Bool.{ltb-false}
use Rattle.std.specs.List.{list_any}
use Rattle.ppm_read.specs.Raw.{words}

-- no sample is above the maximum
or_false : (a b : Bool) → (a || b) ≡ false → (a ≡ false) × (b ≡ false)
or_false true b e = cc
or_false false b e = (refl, e)

pub none_above : (m : ℕ) (s : List ℕ) (i : ℕ) → list_any (ltb m) s ≡ false → i < length s → get_or s i 0 ≤ m
none_above m [] i e lt = absurd (omega arith)
none_above m (v ∷ s) zero e lt = ltb-false m v (or_false (ltb m v) (list_any (ltb m) s) e).0
none_above m (v ∷ s) (suc i) e lt = none_above m s i (or_false (ltb m v) (list_any (ltb m) s) e).1 (omega arith)

-- no byte is above 255
pub no_byte_above : (s : List ℕ) → ((i : ℕ) → get_or s i 0 < 256) → list_any (ltb 255) s ≡ false
no_byte_above [] small = refl
no_byte_above (v ∷ s) small =
    let here : ltb 255 v ≡ false = Rattle.std.proofs.lemmas.Bool.le-ltb 255 v (omega (arith, small 0)) in
    ap (λ b. b || list_any (ltb 255) s) here ∙ no_byte_above s (λ i. small (suc i))

-- no number of two bytes is above 65,535
pub no_word_above : (row : List ℕ) → ((i : ℕ) → get_or row i 0 < 256) → list_any (ltb 65535) (words row) ≡ false
no_word_above [] small = refl
no_word_above (high ∷ []) small = refl
no_word_above (high ∷ low ∷ row) small =
    let here : ltb 65535 (256 * high + low) ≡ false = Rattle.std.proofs.lemmas.Bool.le-ltb 65535 (256 * high + low) (omega (arith, small 0, small 1)) in
    ap (λ b. b || list_any (ltb 65535) (words row)) here ∙ no_word_above row (λ i. small (suc (suc i)))
