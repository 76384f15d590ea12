-- A transform that keeps a picture's size keeps the picture.
use Rattle.std.proofs.Common.{◌≡◌, ℕ, ◌≤◌, Bool, true, false, cond, refl, sym, ap, ◌∙◌}
use Rattle.bitmap_kind.specs.declared.bitmaps.Transform.{Transform}
use Rattle.bitmap_kind.specs.declared.bitmaps.Transform.TheVariants.{Nothing, Fit, Crop, Inside}
use Rattle.bitmap_kind.specs.Picture.{Picture, pixel_at}
use Rattle.transforms.specs.Sizes.{fitted, lies_inside, target_size, scaled_place, source_column, source_row}
use Rattle.transforms.specs.Boxes.{AreSides, IsWhole}
use Rattle.transforms.specs.Moved.{pixels_by, moved}
use Rattle.transforms.proofs.SizeLemmas.{fitted-same}
use Rattle.transforms.proofs.Lines.{column-same, row-same}
use Rattle.transforms.proofs.Wholes.{bytes_by_pixels, same_pixels}

-- a line that is scaled to its own length
column_scaled : (w h x : ℕ) (size : ℕ × ℕ) → 1 ≤ w → 1 ≤ h → size ≡ (w, h) → scaled_place w size.0 x ≡ x
column_scaled w h x size wide high same = ap (λ (s : ℕ × ℕ). scaled_place w s.0 x) (same ∙ sym (fitted-same w h wide high)) ∙ column-same Fit w h x wide high

row_scaled : (w h y : ℕ) (size : ℕ × ℕ) → 1 ≤ w → 1 ≤ h → size ≡ (w, h) → scaled_place h size.1 y ≡ y
row_scaled w h y size wide high same = ap (λ (s : ℕ × ℕ). scaled_place h s.1 y) (same ∙ sym (fitted-same w h wide high)) ∙ row-same Fit w h y wide high

column_case : (left : Bool) (w h x : ℕ) (size : ℕ × ℕ) → 1 ≤ w → 1 ≤ h → cond left (w, h) size ≡ (w, h) → cond left x (scaled_place w size.0 x) ≡ x
column_case true w h x size wide high same = refl
column_case false w h x size wide high same = column_scaled w h x size wide high same

row_case : (left : Bool) (w h y : ℕ) (size : ℕ × ℕ) → 1 ≤ w → 1 ≤ h → cond left (w, h) size ≡ (w, h) → cond left y (scaled_place h size.1 y) ≡ y
row_case true w h y size wide high same = refl
row_case false w h y size wide high same = row_scaled w h y size wide high same

column_kept : (transform : Transform) (w h W H x : ℕ) → 1 ≤ w → 1 ≤ h → target_size w h transform W H ≡ (w, h) → source_column w h transform W H x ≡ x
column_kept Nothing w h W H x wide high same = refl
column_kept Fit w h W H x wide high same = column_scaled w h x (fitted w h W H) wide high same
column_kept Crop w h W H x wide high same = ap (λ (s : ℕ × ℕ). source_column w h Crop s.0 s.1 x) same ∙ column-same Crop w h x wide high
column_kept Inside w h W H x wide high same = column_case (lies_inside w h W H) w h x (fitted w h W H) wide high same

row_kept : (transform : Transform) (w h W H y : ℕ) → 1 ≤ w → 1 ≤ h → target_size w h transform W H ≡ (w, h) → source_row w h transform W H y ≡ y
row_kept Nothing w h W H y wide high same = refl
row_kept Fit w h W H y wide high same = row_scaled w h y (fitted w h W H) wide high same
row_kept Crop w h W H y wide high same = ap (λ (s : ℕ × ℕ). source_row w h Crop s.0 s.1 y) same ∙ row-same Crop w h y wide high
row_kept Inside w h W H y wide high same = row_case (lies_inside w h W H) w h y (fitted w h W H) wide high same

pub moved_kept : (transform : Transform) (p : Picture) (W H : ℕ) → AreSides p.width p.height → IsWhole p → target_size p.width p.height transform W H ≡ (p.width, p.height) → moved p transform W H ≡ p
moved_kept transform p W H sides whole same =
    let w = p.width in
    let h = p.height in
    let pixel = λ (x : ℕ) (y : ℕ). pixel_at p (source_column w h transform W H x) (source_row w h transform W H y) in
    let of_size : ℕ × ℕ → Picture = λ s. record { width = s.0; height = s.1; config = p.config; bytes = pixels_by s.0 s.1 pixel } in
    let kept = same_pixels w h pixel (λ x y. pixel_at p x y) (λ x y across down i.
    pixel_at p (column_kept transform w h W H x sides.wide sides.high same i) (row_kept transform w h W H y sides.wide sides.high same i)) in
    ap of_size same ∙ ap (λ l. record { width = w; height = h; config = p.config; bytes = l }) (kept ∙ bytes_by_pixels p whole)
