-- How a bitmap is seen after a write to its memory.
use Rattle.std.proofs.Common.{◌≡◌, ℕ, ◌+◌, ◌≤◌, List, length, take, drop, sym, ap, ◌∙◌, arith}
use Rattle.std.proofs.lemmas.List.{with_items_is}
use Rattle.std.specs.Vec.{with_items}
use Rattle.bitmap_kind.specs.declared.bitmaps.Bitmap.TheInside.{Inside}
use Rattle.bitmap_kind.specs.Stored.{overwritten}
use Rattle.bitmap_kind.specs.Picture.{BitmapValue, stored_size, with_piece}
use Rattle.bitmap_kind.specs.BitmapView.{value_of, IsWhole}
use Rattle.bitmap_kind.specs.Places.{length-overwritten}
use Rattle.bitmap_kind.proofs.Places.{take-overwritten, drop-overwritten}

-- a piece is written over the stored bytes
pub view-written : (s : Inside) (now piece : List ℕ) (at : ℕ) → IsWhole s → now ≡ overwritten s.memory.items at piece → at + length piece ≤ stored_size s.width s.height s.config
    → value_of (record s { memory = with_items s.memory now }) ≡ with_piece (value_of s) at piece
view-written s now piece at whole is inside =
    let size = stored_size s.width s.height s.config in
    let same : length now ≡ length s.memory.items = ap length is ∙ length-overwritten s.memory.items piece at (omega (arith, whole.fits)) in
    let seen : List ℕ → BitmapValue = λ l. record { number = s.number; allocation = length l; picture = record { width = s.width; height = s.height; config = s.config; bytes = take size l }; spare = drop size l } in
    let bytes = ap (take size) is ∙ take-overwritten s.memory.items piece at size inside whole.fits in
    let spare = ap (drop size) is ∙ drop-overwritten s.memory.items piece at size inside whole.fits in
    ap seen (with_items_is s.memory now (same ∙ sym s.memory.ok.0))
    ∙ (λ i. record { number = s.number; allocation = same i; picture = record { width = s.width; height = s.height; config = s.config; bytes = bytes i }; spare = spare i })
