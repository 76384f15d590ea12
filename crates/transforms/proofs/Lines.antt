-- The places of the pixels of a line.
use Rattle.std.proofs.Common.{◌≡◌, ◌≢◌, ℕ, ◌+◌, ◌-◌, ◌*◌, ◌/◌, ◌<◌, ◌≤◌, Bool, true, false, cond, refl, sym, ap, ◌∙◌, arith}
use Rattle.std.proofs.lemmas.Nat.{mul-le, div_below, div-mul-add}
use Rattle.std.proofs.lemmas.Bool.{cond_both, ltb-true, ltb-false, le-ltb}
use Rattle.bitmap_kind.specs.declared.bitmaps.Transform.{Transform}
use Rattle.bitmap_kind.specs.declared.bitmaps.Transform.TheVariants.{Nothing, Fit, Crop, Inside}
use Rattle.transforms.specs.Sizes.{fitted, lies_inside, is_wider, target_size, scaled_place, cropped_place, source_column, source_row}
use Rattle.transforms.specs.declared.axes.Axis.{Axis}
use Rattle.transforms.specs.Axis.{Follows}
use Rattle.transforms.specs.Boxes.{AreSides}
use Rattle.transforms.proofs.SizeLemmas.{fitted-same, lies_inside-same}

-- a place lies in the line that it comes from
pub scaled-below : (from to k : ℕ) → 1 ≤ from → k < to → scaled_place from to k < from
scaled-below from to k some lt =
    let numbers : (2 * k + 2) * from ≤ (2 * to) * from = mul-le (2 * k + 2) from (2 * to) from (omega arith) (omega arith) in
    div_below ((2 * k + 1) * from) (2 * to) from (omega arith) (omega arith)

pub cropped-below : (from across wanted to k : ℕ) → 1 ≤ across → 1 ≤ to → wanted * across ≤ from * to → k < wanted → cropped_place from across wanted to k < from
cropped-below from across wanted to k some some' cut lt =
    let numbers : (2 * k + 2) * across ≤ (2 * wanted) * across = mul-le (2 * k + 2) across (2 * wanted) across (omega arith) (omega arith) in
    div_below ((2 * k + 1) * across + from * to - wanted * across) (2 * to) from (omega arith) (omega arith)

column_case : (left : Bool) (w h x : ℕ) (size : ℕ × ℕ) → 1 ≤ w → x < (cond left (w, h) size).0 → cond left x (scaled_place w size.0 x) < w
column_case true w h x size some lt = lt
column_case false w h x size some lt = scaled-below w size.0 x some lt

pub column-below : (transform : Transform) (w h W H x : ℕ) → AreSides w h → AreSides W H → x < (target_size w h transform W H).0 → source_column w h transform W H x < w
column-below Nothing w h W H x source box lt = lt
column-below Fit w h W H x source box lt = scaled-below w (fitted w h W H).0 x source.wide lt
column-below Crop w h W H x source box lt =
    cond_both (is_wider w h W H) (cropped_place w h W H x) (scaled_place w W x) (λ k. k < w)
    (λ e. let wider : W * h < w * H = ltb-true (W * h) (w * H) e in cropped-below w h W H x source.high box.high (omega arith) lt)
    (λ e. scaled-below w W x source.wide lt)
column-below Inside w h W H x source box lt = column_case (lies_inside w h W H) w h x (fitted w h W H) source.wide lt

row_case : (left : Bool) (w h y : ℕ) (size : ℕ × ℕ) → 1 ≤ h → y < (cond left (w, h) size).1 → cond left y (scaled_place h size.1 y) < h
row_case true w h y size some lt = lt
row_case false w h y size some lt = scaled-below h size.1 y some lt

pub row-below : (transform : Transform) (w h W H y : ℕ) → AreSides w h → AreSides W H → y < (target_size w h transform W H).1 → source_row w h transform W H y < h
row-below Nothing w h W H y source box lt = lt
row-below Fit w h W H y source box lt = scaled-below h (fitted w h W H).1 y source.high lt
row-below Crop w h W H y source box lt =
    cond_both (is_wider w h W H) (scaled_place h H y) (cropped_place h w H W y) (λ k. k < h)
    (λ e. scaled-below h H y source.high lt)
    (λ e. let narrow : w * H ≤ W * h = ltb-false (W * h) (w * H) e in cropped-below h w H W y source.wide box.wide (omega arith) lt)
row-below Inside w h W H y source box lt = row_case (lies_inside w h W H) w h y (fitted w h W H) source.high lt

scaled-same : (side k : ℕ) → 1 ≤ side → scaled_place side side k ≡ k
scaled-same side k some =
    let sum : (2 * k + 1) * side ≡ k * (2 * side) + side = omega arith in
    ap (λ n. n / (2 * side)) sum ∙ div-mul-add k (2 * side) side (omega arith)

cropped-same : (from across k : ℕ) → 1 ≤ across → cropped_place from across from across k ≡ k
cropped-same from across k some =
    let sum : (2 * k + 1) * across + from * across - from * across ≡ k * (2 * across) + across = omega arith in
    ap (λ n. n / (2 * across)) sum ∙ div-mul-add k (2 * across) across (omega arith)

not_wider : (w h : ℕ) → is_wider w h w h ≡ false
not_wider w h = le-ltb (w * h) (w * h) (omega arith)

pub column-same : (transform : Transform) (w h x : ℕ) → 1 ≤ w → 1 ≤ h → source_column w h transform w h x ≡ x
column-same Nothing w h x some some' = refl
column-same Fit w h x some some' = ap (λ s. scaled_place w s.0 x) (fitted-same w h some some') ∙ scaled-same w x some
column-same Crop w h x some some' = ap (λ b. cond b (cropped_place w h w h x) (scaled_place w w x)) (not_wider w h) ∙ scaled-same w x some
column-same Inside w h x some some' = ap (λ b. cond b x (scaled_place w (fitted w h w h).0 x)) (lies_inside-same w h)

pub row-same : (transform : Transform) (w h y : ℕ) → 1 ≤ w → 1 ≤ h → source_row w h transform w h y ≡ y
row-same Nothing w h y some some' = refl
row-same Fit w h y some some' = ap (λ s. scaled_place h s.1 y) (fitted-same w h some some') ∙ scaled-same h y some'
row-same Crop w h y some some' = ap (λ b. cond b (scaled_place h h y) (cropped_place h w h w y)) (not_wider w h) ∙ cropped-same h w y some
row-same Inside w h y some some' = ap (λ b. cond b y (scaled_place h (fitted w h w h).1 y)) (lies_inside-same w h)

-- the same line under other names
pub follows_as : (axis : Axis) (to to' from : ℕ) (place place' : ℕ → ℕ) → to ≡ to' → ((k : ℕ) → place k ≡ place' k) → Follows axis to' from place → Follows axis to from place'
follows_as axis to to' from place place' e same is = record {
  same = λ k lt. is.same k (omega arith) ∙ same k;
  fits = λ k lt. is.fits k (omega arith);
  inside = λ k lt. let below = is.inside k (omega arith) in let here = same k in omega arith;
}

column_kept : (left : Bool) (w h x : ℕ) (size : ℕ × ℕ) → 1 ≤ w → cond left x (scaled_place w size.0 x) ≡ scaled_place w (cond left (w, h) size).0 x
column_kept true w h x size some = sym (scaled-same w x some)
column_kept false w h x size some = refl

row_kept : (left : Bool) (w h y : ℕ) (size : ℕ × ℕ) → 1 ≤ h → cond left y (scaled_place h size.1 y) ≡ scaled_place h (cond left (w, h) size).1 y
row_kept true w h y size some = sym (scaled-same h y some)
row_kept false w h y size some = refl

-- every transform but Crop scales the whole source to the target
pub column-uncropped : (transform : Transform) (w h W H x : ℕ) → 1 ≤ w → transform ≢ Crop → source_column w h transform W H x ≡ scaled_place w (target_size w h transform W H).0 x
column-uncropped Nothing w h W H x some other = sym (scaled-same w x some)
column-uncropped Fit w h W H x some other = refl
column-uncropped Crop w h W H x some other = absurd (other refl)
column-uncropped Inside w h W H x some other = column_kept (lies_inside w h W H) w h x (fitted w h W H) some

pub row-uncropped : (transform : Transform) (w h W H y : ℕ) → 1 ≤ h → transform ≢ Crop → source_row w h transform W H y ≡ scaled_place h (target_size w h transform W H).1 y
row-uncropped Nothing w h W H y some other = sym (scaled-same h y some)
row-uncropped Fit w h W H y some other = refl
row-uncropped Crop w h W H y some other = absurd (other refl)
row-uncropped Inside w h W H y some other = row_kept (lies_inside w h W H) w h y (fitted w h W H) some
