-- What holds of the sizes of targets.
use Rattle.std.proofs.Common.{Bool, ◌≡◌, ℕ, ◌+◌, ◌*◌, ◌/◌, ◌<◌, ◌≤◌, ◌⊎◌, inl, inr, true, false, cond, max, refl, ap, ◌∙◌, arith, leb}
use Rattle.std.proofs.Math.Nat.{max-le, le-max_left, lt_of_mul-lt-mul_right}
use Rattle.std.proofs.lemmas.Nat.{mul-le, div_below, div-mul-add}
use Rattle.std.proofs.lemmas.Bool.{cond_both, leb-true, leb-false, le-leb, and_cases, and_from}
use Rattle.bitmap_kind.specs.declared.bitmaps.Transform.{Transform}
use Rattle.bitmap_kind.specs.declared.bitmaps.Transform.TheVariants.{Nothing, Fit, Crop, Inside}
use Rattle.transforms.specs.Sizes.{fitted, lies_inside, target_size}
use Rattle.transforms.specs.Boxes.{AreSides, TouchesBox}

-- a length that is scaled and rounded stays below a limit that the scaled one does not pass
pub rounded-le : (from times divided limit : ℕ) → 1 ≤ divided → 1 ≤ limit → from * times ≤ limit * divided → max 1 ((2 * from * times + divided) / (2 * divided)) ≤ limit
rounded-le from times divided limit some room fits =
    let below : (2 * from * times + divided) / (2 * divided) < limit + 1 = div_below (2 * from * times + divided) (2 * divided) (limit + 1) (omega arith) (omega arith) in
    max-le room (omega arith)

pub fitted-touches : (w h W H : ℕ) → AreSides w h → AreSides W H → TouchesBox (fitted w h W H) W H
fitted-touches w h W H source box =
    cond_both {A = ℕ × ℕ} (leb (W * h) (H * w)) (W, max 1 ((2 * h * W + w) / (2 * w))) (max 1 ((2 * w * H + h) / (2 * h)), H) (λ s. TouchesBox s W H)
    (λ e. let wide : W * h ≤ H * w = leb-true (W * h) (H * w) e in inl (refl, rounded-le h W w H source.wide box.high (omega arith)))
    (λ e. let high : H * w < W * h = leb-false (W * h) (H * w) e in inr (refl, rounded-le w H h W source.high box.wide (omega arith)))

pub fitted-sides : (w h W H : ℕ) → AreSides W H → AreSides (fitted w h W H).0 (fitted w h W H).1
fitted-sides w h W H box =
    cond_both {A = ℕ × ℕ} (leb (W * h) (H * w)) (W, max 1 ((2 * h * W + w) / (2 * w))) (max 1 ((2 * w * H + h) / (2 * h)), H) (λ s. AreSides s.0 s.1)
    (λ e. record { wide = box.wide; high = le-max_left 1 _ })
    (λ e. record { wide = le-max_left 1 _; high = box.high })

-- of two scales the smaller one is at most that which makes smaller
smaller : (w h W H : ℕ) → 1 ≤ w → (W < w) ⊎ (H < h) → W * h ≤ H * w → W ≤ w
smaller w h W H some (inl less) wide = omega arith
smaller w h W H some (inr less) wide =
    let rows : (H + 1) * w ≤ h * w = mul-le (H + 1) w h w (omega arith) (omega arith) in
    let columns : W * h < w * h = omega arith in
    let less' : W < w = lt_of_mul-lt-mul_right h columns in
    omega arith

pub fitted-within : (w h W H : ℕ) → AreSides w h → AreSides W H → (W < w) ⊎ (H < h) → ((fitted w h W H).0 ≤ w) × ((fitted w h W H).1 ≤ h)
fitted-within w h W H source box less =
    cond_both {A = ℕ × ℕ} (leb (W * h) (H * w)) (W, max 1 ((2 * h * W + w) / (2 * w))) (max 1 ((2 * w * H + h) / (2 * h)), H) (λ s. (s.0 ≤ w) × (s.1 ≤ h))
    (λ e.
    let width : W ≤ w = smaller w h W H source.wide less (leb-true (W * h) (H * w) e) in
    (width, rounded-le h W w h source.wide source.high (mul-le h W h w (omega arith) width)))
    (λ e.
    let high : H * w < W * h = leb-false (W * h) (H * w) e in
    let other : (H < h) ⊎ (W < w) = elim less as (λ _. (H < h) ⊎ (W < w)) [ inl a ↦ inr a | inr b ↦ inl b ] in
    let height : H ≤ h = smaller h w H W source.high other (omega arith) in
    (rounded-le w H h w source.high source.wide (mul-le w H w h (omega arith) height), height))

pub not_inside : (w h W H : ℕ) → lies_inside w h W H ≡ false → (W < w) ⊎ (H < h)
not_inside w h W H e =
    elim (and_cases (leb w W) (leb h H) e) as (λ _. (W < w) ⊎ (H < h)) [ inl a ↦ inl (leb-false w W a) | inr b ↦ inr (leb-false h H b) ]

pub inside-within : (w h W H : ℕ) → AreSides w h → AreSides W H → ((target_size w h Inside W H).0 ≤ w) × ((target_size w h Inside W H).1 ≤ h)
inside-within w h W H source box =
    cond_both {A = ℕ × ℕ} (lies_inside w h W H) (w, h) (fitted w h W H) (λ s. (s.0 ≤ w) × (s.1 ≤ h))
    (λ e. (omega arith, omega arith))
    (λ e. fitted-within w h W H source box (not_inside w h W H e))

pub size-sides : (transform : Transform) (w h W H : ℕ) → AreSides w h → AreSides W H → AreSides (target_size w h transform W H).0 (target_size w h transform W H).1
size-sides Nothing w h W H source box = source
size-sides Fit w h W H source box = fitted-sides w h W H box
size-sides Crop w h W H source box = box
size-sides Inside w h W H source box =
    cond_both {A = ℕ × ℕ} (lies_inside w h W H) (w, h) (fitted w h W H) (λ s. AreSides s.0 s.1) (λ e. source) (λ e. fitted-sides w h W H box)

rounded-same : (w h : ℕ) → 1 ≤ w → 1 ≤ h → max 1 ((2 * h * w + w) / (2 * w)) ≡ h
rounded-same w h some some' =
    let sum : 2 * h * w + w ≡ h * (2 * w) + w = omega arith in
    let most : max 1 h ≡ h = omega arith in
    ap (λ n. max 1 (n / (2 * w))) sum ∙ ap (max 1) (div-mul-add h (2 * w) w (omega arith)) ∙ most

square : (w h : ℕ) → leb (w * h) (h * w) ≡ true
square w h = le-leb (w * h) (h * w) (omega arith)

pub fitted-same : (w h : ℕ) → 1 ≤ w → 1 ≤ h → fitted w h w h ≡ (w, h)
fitted-same w h some some' =
    let size : Bool → ℕ × ℕ = λ b. cond b (w, max 1 ((2 * h * w + w) / (2 * w))) (max 1 ((2 * w * h + h) / (2 * h)), h) in
    ap size (square w h) ∙ ap (λ n. (w, n)) (rounded-same w h some some')

pub lies_inside-same : (w h : ℕ) → lies_inside w h w h ≡ true
lies_inside-same w h = and_from (leb w w) (leb h h) (le-leb w w (omega arith)) (le-leb h h (omega arith))

pub size-same : (transform : Transform) (w h : ℕ) → 1 ≤ w → 1 ≤ h → target_size w h transform w h ≡ (w, h)
size-same Nothing w h some some' = refl
size-same Fit w h some some' = fitted-same w h some some'
size-same Crop w h some some' = refl
size-same Inside w h some some' = ap (λ b. cond b (w, h) (fitted w h w h)) (lies_inside-same w h)
