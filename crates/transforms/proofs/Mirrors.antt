-- Places that mirror one another.
use Rattle.std.proofs.Common.{◌≡◌, ℕ, ◌+◌, ◌-◌, ◌*◌, ◌/◌, ◌%◌, ◌<◌, ◌≤◌, ◌⊎◌, inl, inr, Bool, true, false, cond, refl, ap, arith}
use Rattle.std.proofs.Math.Nat.{lt_of_mul-lt-mul_right}
use Rattle.std.proofs.lemmas.Nat.{div-add-mod', mod_below}
use Rattle.std.proofs.lemmas.Bool.{cases_lt, ltb-true, ltb-false}
use Rattle.bitmap_kind.specs.declared.bitmaps.Transform.{Transform}
use Rattle.bitmap_kind.specs.declared.bitmaps.Transform.TheVariants.{Nothing, Fit, Crop, Inside}
use Rattle.transforms.specs.Sizes.{fitted, lies_inside, is_wider, target_size, scaled_place, cropped_place, source_column, source_row}
use Rattle.transforms.specs.Boxes.{AreSides, AreMirrored}

one_of_two : (n m : ℕ) → n < m + 1 → m < n + 2 → (n + 1 ≡ m) ⊎ (n ≡ m)
one_of_two n m at_most at_least = elim (cases_lt n m) as (λ _. (n + 1 ≡ m) ⊎ (n ≡ m)) [ inl less ↦ inl (omega arith) | inr same ↦ inr (omega arith) ]

-- two quotients of numbers whose sum is whole
quotients : (a b d m : ℕ) → 0 < d → a + b ≡ m * d → AreMirrored (a / d) (b / d) m
quotients a b d m some sum =
    let left = div-add-mod' a d in
    let right = div-add-mod' b d in
    let low : a % d < d = mod_below a d some in
    let high : b % d < d = mod_below b d some in
    let below : (a / d + b / d) * d < (m + 1) * d = omega arith in
    let above : m * d < (a / d + b / d + 2) * d = omega arith in
    let at_most : a / d + b / d < m + 1 = lt_of_mul-lt-mul_right d below in
    let at_least : m < a / d + b / d + 2 = lt_of_mul-lt-mul_right d above in
    one_of_two (a / d + b / d) m at_most at_least

scaled-mirrored : (from to x y : ℕ) → x + y + 1 ≡ to → AreMirrored (scaled_place from to x) (scaled_place from to y) from
scaled-mirrored from to x y ends =
    let sum : (2 * x + 1) * from + (2 * y + 1) * from ≡ from * (2 * to) = omega (arith, ap (λ k. k * from) ends) in
    quotients ((2 * x + 1) * from) ((2 * y + 1) * from) (2 * to) from (omega arith) sum

cropped-mirrored : (from across wanted to x y : ℕ) → 1 ≤ to → wanted * across ≤ from * to → x + y + 1 ≡ wanted → AreMirrored (cropped_place from across wanted to x) (cropped_place from across wanted to y) from
cropped-mirrored from across wanted to x y some cut ends =
    let sum : ((2 * x + 1) * across + from * to - wanted * across) + ((2 * y + 1) * across + from * to - wanted * across) ≡ from * (2 * to) = omega (arith, ap (λ k. k * across) ends) in
    quotients ((2 * x + 1) * across + from * to - wanted * across) ((2 * y + 1) * across + from * to - wanted * across) (2 * to) from (omega arith) sum

column_case : (left : Bool) (w h x y : ℕ) (size : ℕ × ℕ) → x + y + 1 ≡ (cond left (w, h) size).0 → AreMirrored (cond left x (scaled_place w size.0 x)) (cond left y (scaled_place w size.0 y)) w
column_case true w h x y size ends = inl ends
column_case false w h x y size ends = scaled-mirrored w size.0 x y ends

row_case : (left : Bool) (w h x y : ℕ) (size : ℕ × ℕ) → x + y + 1 ≡ (cond left (w, h) size).1 → AreMirrored (cond left x (scaled_place h size.1 x)) (cond left y (scaled_place h size.1 y)) h
row_case true w h x y size ends = inl ends
row_case false w h x y size ends = scaled-mirrored h size.1 x y ends

column_crop : (wider : Bool) (w h W H x y : ℕ) → 1 ≤ H → is_wider w h W H ≡ wider → x + y + 1 ≡ W → AreMirrored (cond wider (cropped_place w h W H x) (scaled_place w W x)) (cond wider (cropped_place w h W H y) (scaled_place w W y)) w
column_crop true w h W H x y some e ends = let test : W * h < w * H = ltb-true (W * h) (w * H) e in cropped-mirrored w h W H x y some (omega arith) ends
column_crop false w h W H x y some e ends = scaled-mirrored w W x y ends

row_crop : (wider : Bool) (w h W H x y : ℕ) → 1 ≤ W → is_wider w h W H ≡ wider → x + y + 1 ≡ H → AreMirrored (cond wider (scaled_place h H x) (cropped_place h w H W x)) (cond wider (scaled_place h H y) (cropped_place h w H W y)) h
row_crop true w h W H x y some e ends = scaled-mirrored h H x y ends
row_crop false w h W H x y some e ends = let test : w * H ≤ W * h = ltb-false (W * h) (w * H) e in cropped-mirrored h w H W x y some (omega arith) ends

pub column-mirrored : (transform : Transform) (w h W H x y : ℕ) → AreSides w h → AreSides W H → x + y + 1 ≡ (target_size w h transform W H).0 → AreMirrored (source_column w h transform W H x) (source_column w h transform W H y) w
column-mirrored Nothing w h W H x y source box ends = inl ends
column-mirrored Fit w h W H x y source box ends = scaled-mirrored w (fitted w h W H).0 x y ends
column-mirrored Crop w h W H x y source box ends = column_crop (is_wider w h W H) w h W H x y box.high refl ends
column-mirrored Inside w h W H x y source box ends = column_case (lies_inside w h W H) w h x y (fitted w h W H) ends

pub row-mirrored : (transform : Transform) (w h W H x y : ℕ) → AreSides w h → AreSides W H → x + y + 1 ≡ (target_size w h transform W H).1 → AreMirrored (source_row w h transform W H x) (source_row w h transform W H y) h
row-mirrored Nothing w h W H x y source box ends = inl ends
row-mirrored Fit w h W H x y source box ends = scaled-mirrored h (fitted w h W H).1 x y ends
row-mirrored Crop w h W H x y source box ends = row_crop (is_wider w h W H) w h W H x y box.wide refl ends
row-mirrored Inside w h W H x y source box ends = row_case (lies_inside w h W H) w h x y (fitted w h W H) ends
