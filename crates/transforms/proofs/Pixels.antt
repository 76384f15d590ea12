-- The pixels of a picture that is written over.
use Rattle.std.proofs.Common.{◌≡◌, ℕ, ◌+◌, ◌*◌, ◌<◌, ◌≤◌, ◌⊎◌, inl, inr, List, length, take, drop, ap, ◌∙◌, arith}
use Rattle.std.proofs.lemmas.Nat.{mul-le}
use Rattle.bitmap_kind.specs.Stored.{pixel_bytes, overwritten}
use Rattle.bitmap_kind.specs.Picture.{Picture, pixel_place, pixel_at}
use Rattle.bitmap_kind.specs.Places.{run_inside}
use Rattle.transforms.specs.Boxes.{IsWhole}
use Rattle.transforms.proofs.Pieces.{inside-overwritten, before-overwritten, behind-overwritten}

-- a picture, and a piece of so many pixels from a place on
pub record IsPiece (p : Picture) (x y count : ℕ) (piece : List ℕ) : Type 0 where
  pub whole : IsWhole p
  pub across : x + count ≤ p.width
  pub down : y < p.height
  pub len : length piece ≡ count * pixel_bytes p.config

abbrev pub written : Picture → ℕ → ℕ → List ℕ → Picture
written p x y piece = record p { bytes = overwritten p.bytes (pixel_place p x y) piece }

pub piece_fits : (p : Picture) (x y count : ℕ) (piece : List ℕ) → IsPiece p x y count piece → pixel_place p x y + length piece ≤ length p.bytes
piece_fits p x y count piece is = rw (is.len, is.whole.len) (run_inside x y p.width p.height count (pixel_bytes p.config) is.across is.down)

pub pixel-written : (p : Picture) (x y count i : ℕ) (piece : List ℕ) → IsPiece p x y count piece → i < count → pixel_at (written p x y piece) (x + i) y ≡ take (pixel_bytes p.config) (drop (i * pixel_bytes p.config) piece)
pixel-written p x y count i piece is lt =
    let n = pixel_bytes p.config in
    let place : (y * p.width + (x + i)) * n ≡ pixel_place p x y + i * n = omega arith in
    let within : (i + 1) * n ≤ count * n = mul-le (i + 1) n count n (omega arith) (omega arith) in
    ap (λ k. take n (drop k (overwritten p.bytes (pixel_place p x y) piece))) place
    ∙ inside-overwritten p.bytes piece (pixel_place p x y) (i * n) n (piece_fits p x y count piece is) (omega (arith, is.len))

-- a pixel of another row, or before the piece
pub pixel-unwritten : (p : Picture) (x y count a b : ℕ) (piece : List ℕ) → IsPiece p x y count piece → a < p.width → (b < y) ⊎ (y < b) ⊎ ((b ≡ y) × (a < x)) → pixel_at (written p x y piece) a b ≡ pixel_at p a b
pixel-unwritten p x y count a b piece is across (inl above) =
    let n = pixel_bytes p.config in
    let rows : (b + 1) * p.width ≤ y * p.width = mul-le (b + 1) p.width y p.width (omega arith) (omega arith) in
    let pixels : b * p.width + a + 1 ≤ y * p.width + x = omega arith in
    let bytes : (b * p.width + a + 1) * n ≤ (y * p.width + x) * n = mul-le _ n _ n pixels (omega arith) in
    before-overwritten p.bytes piece (pixel_place p x y) (pixel_place p a b) n (piece_fits p x y count piece is) (omega arith)
pixel-unwritten p x y count a b piece is across (inr (inl below)) =
    let n = pixel_bytes p.config in
    let rows : (y + 1) * p.width ≤ b * p.width = mul-le (y + 1) p.width b p.width (omega arith) (omega arith) in
    let pixels : y * p.width + x + count ≤ b * p.width + a = omega (arith, is.across) in
    let bytes : (y * p.width + x + count) * n ≤ (b * p.width + a) * n = mul-le _ n _ n pixels (omega arith) in
    behind-overwritten p.bytes piece (pixel_place p x y) (pixel_place p a b) n (piece_fits p x y count piece is) (omega (arith, is.len))
pixel-unwritten p x y count a b piece is across (inr (inr left)) =
    let n = pixel_bytes p.config in
    let pixels : b * p.width + a + 1 ≤ y * p.width + x = omega (arith, ap (λ k. k * p.width) left.0) in
    let bytes : (b * p.width + a + 1) * n ≤ (y * p.width + x) * n = mul-le _ n _ n pixels (omega arith) in
    before-overwritten p.bytes piece (pixel_place p x y) (pixel_place p a b) n (piece_fits p x y count piece is) (omega arith)
