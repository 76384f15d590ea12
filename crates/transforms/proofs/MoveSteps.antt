-- The steps of a move: a row of some columns, then more columns.
use Rattle.std.proofs.Common.{◌≡◌, ℕ, ◌+◌, ◌-◌, ◌*◌, ◌<◌, ◌≤◌, ◌⊎◌, inl, inr, List, length, take, drop, below_more, refl, sym, ap, ◌∙◌, arith}
use Rattle.std.proofs.lemmas.Nat.{mul-le}
use Rattle.std.proofs.lemmas.Bool.{cases_lt, cases_order}
use Rattle.bitmap_kind.specs.Stored.{pixel_bytes, overwritten}
use Rattle.bitmap_kind.specs.Picture.{Picture, BitmapValue, stored_size, pixel_place, pixel_at, run_at, with_piece}
use Rattle.bitmap_kind.specs.Places.{run_inside, length-piece, length-overwritten}
use Rattle.transforms.specs.Boxes.{IsWhole}
use Rattle.transforms.specs.Steps.{MovesColumns}
use Rattle.transforms.proofs.Pieces.{piece-piece}
use Rattle.transforms.proofs.Pixels.{IsPiece, written, piece_fits, pixel-written, pixel-unwritten}

-- before the first row
pub none_moved : (source : Picture) (old : BitmapValue) (x count : ℕ) (column row : ℕ → ℕ) → MovesColumns source old old x count 0 column row
none_moved source old x count column row = record {
  shape = refl;
  len = refl;
  moved = λ i y lt below. absurd (omega arith);
  left = λ i y lt below. refl;
}

-- one row more
pub row_moved : (source : Picture) (old mid new : BitmapValue) (x count y : ℕ) (column row : ℕ → ℕ) (piece : List ℕ)
    → MovesColumns source old mid x count y column row → IsPiece mid.picture x y count piece → new ≡ with_piece mid (pixel_place mid.picture x y) piece
    → ((i : ℕ) → i < count → take (pixel_bytes mid.picture.config) (drop (i * pixel_bytes mid.picture.config) piece) ≡ pixel_at source (column i) (row y))
    → MovesColumns source old new x count (y + 1) column row
row_moved source old mid new x count y column row piece before is now pixels =
    let bytes = overwritten mid.picture.bytes (pixel_place mid.picture x y) piece in
    let seen : (a b : ℕ) → pixel_at new.picture a b ≡ pixel_at (written mid.picture x y piece) a b = λ a b. ap (λ (v : BitmapValue). pixel_at v.picture a b) now in
    let unmoved : (a b : ℕ) → a < mid.picture.width → (b < y) ⊎ (y < b) ⊎ ((b ≡ y) × (a < x)) → pixel_at new.picture a b ≡ pixel_at mid.picture a b =
    λ a b across away. seen a b ∙ pixel-unwritten mid.picture x y count a b piece is across away in
    record {
      shape = now ∙ ap (λ (v : BitmapValue). record v { picture = record v.picture { bytes = bytes } }) before.shape
          ∙ ap (λ (l : List ℕ). record old { picture = record old.picture { bytes = l } }) (sym (ap (λ (v : BitmapValue). v.picture.bytes) now));
      len = ap (λ (v : BitmapValue). length v.picture.bytes) now ∙ length-overwritten mid.picture.bytes piece (pixel_place mid.picture x y) (piece_fits mid.picture x y count piece is) ∙ before.len;
      moved = λ i b lt below. below_more (λ k. pixel_at new.picture (x + i) k ≡ pixel_at source (column i) (row k)) y
          (λ k above. unmoved (x + i) k (omega (arith, is.across)) (inl above) ∙ before.moved i k lt above)
          (seen (x + i) y ∙ pixel-written mid.picture x y count i piece is lt ∙ pixels i lt) b below;
      left = λ i b lt below.
          unmoved i b (omega (arith, is.across))
          (elim (cases_order b y) as (λ _. (b < y) ⊎ (y < b) ⊎ ((b ≡ y) × (i < x))) [ inl same ↦ inr (inr (same, lt)) | inr other ↦ elim other as (λ _. (b < y) ⊎ (y < b) ⊎ ((b ≡ y) × (i < x))) [ inl above ↦ inl above | inr under ↦ inr (inl under) ] ])
          ∙ before.left i b lt below;
    }

-- the same columns under another name
pub columns_as : (source : Picture) (old new : BitmapValue) (x count rows : ℕ) (column column' row : ℕ → ℕ) → MovesColumns source old new x count rows column row → ((i : ℕ) → i < count → column i ≡ column' i)
    → MovesColumns source old new x count rows column' row
columns_as source old new x count rows column column' row is same = record {
  shape = is.shape;
  len = is.len;
  moved = λ i b lt below. is.moved i b lt below ∙ ap (λ k. pixel_at source k (row b)) (same i lt);
  left = is.left;
}

-- more columns, behind those that are done
pub columns_moved : (source : Picture) (old mid new : BitmapValue) (x count rows : ℕ) (column part row : ℕ → ℕ) → rows ≡ old.picture.height
    → MovesColumns source old mid 0 x rows column row → MovesColumns source mid new x count rows part row → ((i : ℕ) → i < count → part i ≡ column (x + i))
    → MovesColumns source old new 0 (x + count) rows column row
columns_moved source old mid new x count rows column part row whole before more same =
    let high : mid.picture.height ≡ old.picture.height = ap (λ (v : BitmapValue). v.picture.height) before.shape in
    record {
      shape = more.shape ∙ ap (λ (v : BitmapValue). record v { picture = record v.picture { bytes = new.picture.bytes } }) before.shape;
      len = more.len ∙ before.len;
      moved = λ i b lt below.
          elim (cases_lt i x) as (λ _. pixel_at new.picture (0 + i) b ≡ pixel_at source (column i) (row b)) [
            | inl done ↦ more.left (0 + i) b (omega arith) (omega arith) ∙ before.moved i b done below
            | inr further ↦
                let at : 0 + i ≡ x + (i - x) = omega arith in
                let back : x + (i - x) ≡ i = omega arith in
                ap (λ k. pixel_at new.picture k b) at ∙ more.moved (i - x) b (omega arith) below ∙ ap (λ k. pixel_at source k (row b)) (same (i - x) (omega arith) ∙ ap column back)
          ];
      left = λ i b lt below. absurd (omega arith);
    }

-- the pixels of a run, and of any columns
pub run-pixels : (source : Picture) (first y count i : ℕ) → i < count → take (pixel_bytes source.config) (drop (i * pixel_bytes source.config) (run_at source first y count)) ≡ pixel_at source (first + i) y
run-pixels source first y count i lt =
    let n = pixel_bytes source.config in
    let within : (i + 1) * n ≤ count * n = mul-le (i + 1) n count n (omega arith) (omega arith) in
    let place : pixel_place source first y + i * n ≡ pixel_place source (first + i) y = omega arith in
    piece-piece source.bytes (pixel_place source first y) (i * n) n (count * n) (omega arith) ∙ ap (λ k. take n (drop k source.bytes)) place

pub length-run : (source : Picture) (first y count : ℕ) → IsWhole source → first + count ≤ source.width → y < source.height → length (run_at source first y count) ≡ count * pixel_bytes source.config
length-run source first y count whole across down =
    length-piece source.bytes (pixel_place source first y) (count * pixel_bytes source.config) (rw whole.len (run_inside first y source.width source.height count (pixel_bytes source.config) across down))

pub length-pixel : (source : Picture) (x y : ℕ) → IsWhole source → x < source.width → y < source.height → length (pixel_at source x y) ≡ pixel_bytes source.config
length-pixel source x y whole across down =
    let inside = run_inside x y source.width source.height 1 (pixel_bytes source.config) (omega arith) down in
    length-piece source.bytes (pixel_place source x y) (pixel_bytes source.config) (rw whole.len (omega (arith, inside)))

-- the same, of a row that is copied into a target of the source's config
pub row_copied : (source : Picture) (old mid new : BitmapValue) (x count y : ℕ) (column row : ℕ → ℕ) (piece : List ℕ)
    → MovesColumns source old mid x count y column row → IsWhole old.picture → old.picture.config ≡ source.config → x + count ≤ old.picture.width → y < old.picture.height
    → length piece ≡ count * pixel_bytes source.config → new ≡ with_piece mid (pixel_place mid.picture x y) piece
    → ((i : ℕ) → i < count → take (pixel_bytes source.config) (drop (i * pixel_bytes source.config) piece) ≡ pixel_at source (column i) (row y))
    → MovesColumns source old new x count (y + 1) column row
row_copied source old mid new x count y column row piece before whole config across down len now pixels =
    let wide : mid.picture.width ≡ old.picture.width = ap (λ (v : BitmapValue). v.picture.width) before.shape in
    let high : mid.picture.height ≡ old.picture.height = ap (λ (v : BitmapValue). v.picture.height) before.shape in
    let size : pixel_bytes source.config ≡ pixel_bytes mid.picture.config = sym (ap (λ (v : BitmapValue). pixel_bytes v.picture.config) before.shape ∙ ap pixel_bytes config) in
    let is : IsPiece mid.picture x y count piece = record {
      whole = record { len = before.len ∙ whole.len ∙ sym (ap (λ (v : BitmapValue). stored_size v.picture.width v.picture.height v.picture.config) before.shape) };
      across = omega arith;
      down = omega arith;
      len = len ∙ ap (λ n. count * n) size;
    } in
    row_moved source old mid new x count y column row piece before is now (λ i lt. ap (λ n. take n (drop (i * n) piece)) (sym size) ∙ pixels i lt)
