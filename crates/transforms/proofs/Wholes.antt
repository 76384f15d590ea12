-- A picture as the list of its pixels.
use Rattle.std.proofs.Common.{zero-add, ◌≡◌, ℕ, ◌+◌, ◌*◌, ◌<◌, ◌≤◌, List, zero-mul, length-take, take, drop, sym, ap, ◌∙◌, arith}
use Rattle.std.proofs.lemmas.Nat.{mul-le}
use Rattle.std.proofs.lemmas.List.{take_all}
use Rattle.std.specs.List.{flat_map, range_with_len}
use Rattle.bitmap_kind.specs.declared.bitmaps.Config.{Config}
use Rattle.bitmap_kind.specs.Stored.{pixel_bytes}
use Rattle.bitmap_kind.specs.Picture.{Picture, BitmapValue, stored_size, pixel_place, pixel_at}
use Rattle.transforms.specs.Boxes.{IsWhole}
use Rattle.transforms.specs.Steps.{MovesColumns}
use Rattle.transforms.specs.Moved.{pixels_by}
use Rattle.bitmap_kind.specs.Pieces.{all_pieces, same_pieces}
use Rattle.transforms.proofs.Pieces.{piece-piece}

pub bytes_by_pixels : (p : Picture) → IsWhole p → pixels_by p.width p.height (λ x y. pixel_at p x y) ≡ p.bytes
bytes_by_pixels p whole =
    let n = pixel_bytes p.config in
    let row_of : (y : ℕ) → flat_map (λ x. pixel_at p x y) (range_with_len 0 p.width) ≡ take (p.width * n) (drop (y * (p.width * n)) p.bytes) =
    λ y.
    let row = take (p.width * n) (drop (y * (p.width * n)) p.bytes) in
    same_pieces (λ x. pixel_at p x y) (λ x. take n (drop (x * n) row)) 0 p.width (λ x low high.
    let within : (x + 1) * n ≤ p.width * n = mul-le (x + 1) n p.width n (omega arith) (omega arith) in
    let place : y * (p.width * n) + x * n ≡ pixel_place p x y = omega arith in
    sym (piece-piece p.bytes (y * (p.width * n)) (x * n) n (p.width * n) (omega arith) ∙ ap (λ k. take n (drop k p.bytes)) place))
    ∙ all_pieces row n 0 p.width
    ∙ ap (λ k. take (p.width * n) (drop k row)) (zero-mul n)
    ∙ take_all (p.width * n) row (omega (arith, length-take {A = ℕ})) in
    same_pieces _ (λ y. take (p.width * n) (drop (y * (p.width * n)) p.bytes)) 0 p.height (λ y low high. row_of y)
    ∙ all_pieces p.bytes (p.width * n) 0 p.height
    ∙ ap (λ k. take (p.height * (p.width * n)) (drop k p.bytes)) (zero-mul (p.width * n))
    ∙ take_all (p.height * (p.width * n)) p.bytes (omega (arith, whole.len))

-- pixels that are the same at each place
pub same_pixels : (width height : ℕ) (f g : ℕ → ℕ → List ℕ) → ((x y : ℕ) → x < width → y < height → f x y ≡ g x y) → pixels_by width height f ≡ pixels_by width height g
same_pixels width height f g same =
    same_pieces _ _ 0 height (λ y low high. same_pieces (λ x. f x y) (λ x. g x y) 0 width (λ x low' high'. same x y (omega arith) (omega arith)))

-- a target all of whose columns and rows are moved
pub all_moved : (source : Picture) (old new : BitmapValue) (column row : ℕ → ℕ) → IsWhole old.picture → MovesColumns source old new 0 old.picture.width old.picture.height column row
    → new.picture.bytes ≡ pixels_by old.picture.width old.picture.height (λ x y. pixel_at source (column x) (row y))
all_moved source old new column row whole done =
    let full : IsWhole new.picture = record { len = done.len ∙ whole.len ∙ sym (ap (λ (v : BitmapValue). stored_size v.picture.width v.picture.height v.picture.config) done.shape) } in
    let wide : new.picture.width ≡ old.picture.width = ap (λ (v : BitmapValue). v.picture.width) done.shape in
    let high : new.picture.height ≡ old.picture.height = ap (λ (v : BitmapValue). v.picture.height) done.shape in
    let same : (x y : ℕ) → x < old.picture.width → y < old.picture.height → pixel_at new.picture x y ≡ pixel_at source (column x) (row y) =
    λ x y across down. ap (λ k. pixel_at new.picture k y) (sym (zero-add x)) ∙ done.moved x y across down in
    sym (bytes_by_pixels new.picture full)
    ∙ (λ i. pixels_by (wide i) (high i) (λ x y. pixel_at new.picture x y))
    ∙ same_pixels old.picture.width old.picture.height (λ x y. pixel_at new.picture x y) (λ x y. pixel_at source (column x) (row y)) same

abbrev pub with_pixels : BitmapValue → ℕ × ℕ → Config → (ℕ → ℕ → List ℕ) → BitmapValue
with_pixels bitmap size config pixel = record bitmap { picture = record { width = size.0; height = size.1; config = config; bytes = pixels_by size.0 size.1 pixel } }
