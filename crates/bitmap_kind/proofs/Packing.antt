-- Pixels as stored bytes.
use Rattle.std.proofs.Common.{◌≡◌, ℕ, zero, suc, suc-mul, zero-mul, ◌+◌, ◌-◌, ◌*◌, ◌%◌, ◌^◌, bit_or, ◌<◌, List, [], ◌∷◌, ◌++◌, length, drop, get_or, refl, sym, ap, ◌∙◌, arith, length-append, append_assoc}
use Rattle.std.proofs.Math.Nat.{mod-eq_of_lt}
use Rattle.std.proofs.lemmas.Nat.{or_shifted}
use Rattle.std.proofs.lemmas.Grind.{or_after_shift}
use Rattle.std.proofs.lemmas.List.{drop_more}
use Rattle.bitmap_kind.specs.declared.bitmaps.Config.{Config}
use Rattle.bitmap_kind.specs.declared.bitmaps.Config.TheVariants.{Argb8888, Rgb565, Alpha8}
use Rattle.bitmap_kind.specs.Stored.{pixel_bytes, packed, stored}

-- of whole pixels that keep their four bytes, the stored bytes are the pixels
pub stored-argb : (pixels : List ℕ) (n : ℕ) → length pixels ≡ 4 * n → stored Argb8888 pixels ≡ pixels
stored-argb [] n e = refl
stored-argb (r ∷ []) n e = absurd (omega arith)
stored-argb (r ∷ g ∷ []) n e = absurd (omega arith)
stored-argb (r ∷ g ∷ b ∷ []) n e = absurd (omega arith)
stored-argb (r ∷ g ∷ b ∷ a ∷ rest) n e = ap (λ l. r ∷ g ∷ b ∷ a ∷ l) (stored-argb rest (n - 1) (omega arith))

pub length-packed : (config : Config) (r g b a : ℕ) → length (packed config r g b a) ≡ pixel_bytes config
length-packed Argb8888 r g b a = refl
length-packed Rgb565 r g b a = refl
length-packed Alpha8 r g b a = refl

one_more : (n k : ℕ) → 0 < n → k + (n - 1) * k ≡ n * k
one_more zero k lt = absurd (omega arith)
one_more (suc n) k lt = let before : suc n - 1 ≡ n = omega arith in rw before (omega (arith, suc-mul n k))

pub length-stored : (config : Config) (pixels : List ℕ) (n : ℕ) → length pixels ≡ 4 * n → length (stored config pixels) ≡ n * pixel_bytes config
length-stored config [] n e = let none : n ≡ 0 = omega arith in sym (ap (λ j. j * pixel_bytes config) none ∙ zero-mul (pixel_bytes config))
length-stored config (r ∷ []) n e = absurd (omega arith)
length-stored config (r ∷ g ∷ []) n e = absurd (omega arith)
length-stored config (r ∷ g ∷ b ∷ []) n e = absurd (omega arith)
length-stored config (r ∷ g ∷ b ∷ a ∷ rest) n e =
    length-append (packed config r g b a) (stored config rest)
    ∙ (λ i. length-packed config r g b a i + length-stored config rest (n - 1) (omega arith) i)
    ∙ one_more n (pixel_bytes config) (omega arith)

-- whole pixels before others
pub stored-append : (config : Config) (xs ys : List ℕ) (n : ℕ) → length xs ≡ 4 * n → stored config (xs ++ ys) ≡ stored config xs ++ stored config ys
stored-append config [] ys n e = refl
stored-append config (r ∷ []) ys n e = absurd (omega arith)
stored-append config (r ∷ g ∷ []) ys n e = absurd (omega arith)
stored-append config (r ∷ g ∷ b ∷ []) ys n e = absurd (omega arith)
stored-append config (r ∷ g ∷ b ∷ a ∷ rest) ys n e =
    ap (λ l. packed config r g b a ++ l) (stored-append config rest ys (n - 1) (omega arith))
    ∙ sym (append_assoc (packed config r g b a) (stored config rest) (stored config ys))

-- one element more
drop_next : (xs : List ℕ) (i j : ℕ) → i < length xs → j ≡ i + 1 → drop i xs ≡ get_or xs i 0 ∷ drop j xs
drop_next xs i j lt e = drop_more xs i 0 lt ∙ ap (λ k. get_or xs i 0 ∷ drop k xs) (sym e)

-- one pixel more
pub stored_more : (config : Config) (rgba front piece : List ℕ) (x : ℕ) → 4 * x + 3 < length rgba
    → piece ≡ packed config (get_or rgba (4 * x) 0) (get_or rgba (4 * x + 1) 0) (get_or rgba (4 * x + 2) 0) (get_or rgba (4 * x + 3) 0)
    → front ++ stored config (drop (4 * x) rgba) ≡ stored config rgba → (front ++ piece) ++ stored config (drop (4 * (x + 1)) rgba) ≡ stored config rgba
stored_more config rgba front piece x lt e before =
    let fourth = drop_next rgba (4 * x + 3) (4 * (x + 1)) lt (omega arith) in
    let third = drop_next rgba (4 * x + 2) (4 * x + 3) (omega arith) (omega arith) in
    let second = drop_next rgba (4 * x + 1) (4 * x + 2) (omega arith) (omega arith) in
    let first = drop_next rgba (4 * x) (4 * x + 1) (omega arith) refl in
    let all : drop (4 * x) rgba ≡ get_or rgba (4 * x) 0 ∷ get_or rgba (4 * x + 1) 0 ∷ get_or rgba (4 * x + 2) 0 ∷ get_or rgba (4 * x + 3) 0 ∷ drop (4 * (x + 1)) rgba =
    first ∙ ap (λ l. get_or rgba (4 * x) 0 ∷ l) (second ∙ ap (λ l. get_or rgba (4 * x + 1) 0 ∷ l) (third ∙ ap (λ l. get_or rgba (4 * x + 2) 0 ∷ l) fourth)) in
    append_assoc front piece (stored config (drop (4 * (x + 1)) rgba))
    ∙ ap (λ l. front ++ (l ++ stored config (drop (4 * (x + 1)) rgba))) e
    ∙ ap (λ l. front ++ l) (sym (ap (stored config) all))
    ∙ before

-- the shifted parts of a word, which share no bit
pub word_or : (x y z : ℕ) → x < 32 → y < 64 → z < 32 → bit_or (bit_or (x * 2048 % 65536) (y * 32 % 65536)) z ≡ x * 2048 + y * 32 + z
word_or x y z lx ly lz =
    let low : y * 32 % 65536 ≡ y * 32 = mod-eq_of_lt (omega arith) in
    let high : bit_or (x * 2048 % 65536) (y * 32) ≡ x * 2048 + y * 32 = or_after_shift x 2048 65536 (y * 32) refl (omega arith) (omega arith) in
    let joined : x * 2048 + y * 32 ≡ (x * 64 + y) * 2 ^ 5 = omega arith in
    ap (λ n. bit_or (bit_or (x * 2048 % 65536) n) z) low ∙ ap (λ n. bit_or n z) (high ∙ joined) ∙ or_shifted (x * 64 + y) 5 z lz ∙ sym (ap (λ n. n + z) joined)
