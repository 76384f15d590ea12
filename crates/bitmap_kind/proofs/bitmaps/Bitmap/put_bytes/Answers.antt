use Rattle.std.proofs.Common.{◌≡◌, ℕ, ◌+◌, ◌++◌, ◌≤◌, length, take, drop, List, [], ap, ◌∙◌, arith, append-nil}
use Rattle.std.proofs.lemmas.List.{drop_all, length-take-le}
use Rattle.bitmap_kind.specs.Stored.{overwritten}
use Rattle.bitmap_kind.specs.Picture.{BitmapValue, stored_size, with_piece}
use Rattle.bitmap_kind.proofs.Views.{view-written}
use Rattle.bitmap_kind.proofs.bitmaps.Bitmap.put_bytes.Goals as goal

pub returns : goal.returns
returns c =
    let s = c.self.inside in
    let old : BitmapValue = c.args.self.now in
    let piece = c.args.bytes.now in
    let size : stored_size s.width s.height s.config ≡ stored_size old.picture.width old.picture.height old.picture.config =
    ap (λ (v : BitmapValue). stored_size v.picture.width v.picture.height v.picture.config) c.self.view_is in
    let is : c.write_bytes.new.memory ≡ overwritten s.memory.items 0 piece = c.write_bytes.ensures ∙ ap (λ (l : List ℕ). overwritten l 0 piece) c.deref_mut.ensures.value in
    let seen : length (take (stored_size s.width s.height s.config) s.memory.items) ≡ length old.picture.bytes = ap (λ (v : BitmapValue). length v.picture.bytes) c.self.view_is in
    let room : length old.picture.bytes ≤ length piece = omega (arith, seen, size, c.requires, length-take-le (stored_size s.width s.height s.config) s.memory.items c.self.invariant.fits) in
    let rest : drop (0 + length piece) old.picture.bytes ≡ [] = drop_all (0 + length piece) old.picture.bytes (omega (arith, room)) in
    view-written s c.write_bytes.new.memory piece 0 c.self.invariant is (omega (arith, c.requires, size))
    ∙ ap (λ (v : BitmapValue). with_piece v 0 piece) c.self.view_is
    ∙ ap (λ (l : List ℕ). record old { picture = record old.picture { bytes = piece ++ l } }) rest
    ∙ ap (λ (l : List ℕ). record old { picture = record old.picture { bytes = l } }) (append-nil piece)
