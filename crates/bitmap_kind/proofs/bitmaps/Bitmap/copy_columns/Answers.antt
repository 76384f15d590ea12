use Rattle.std.proofs.Common.{◌≡◌, ◌+◌, ◌*◌, length, take, drop, get_or, sym, ap, ◌∙◌, arith}
use Rattle.std.specs.List.{flat_map}
use Rattle.bitmap_kind.specs.Stored.{pixel_bytes, overwritten}
use Rattle.bitmap_kind.specs.Picture.{BitmapValue, pixel_place, pixel_at, pixels_at, with_piece}
use Rattle.bitmap_kind.specs.Places.{run_inside, length-piece, length-pieces}
use Rattle.bitmap_kind.proofs.Views.{view-written}
use Rattle.bitmap_kind.proofs.bitmaps.Bitmap.copy_columns.Goals as goal

pub write_columns-requires-clause-columns : goal.write_columns-requires-clause-columns
write_columns-requires-clause-columns c =
    let f = c.args.from.now.picture in
    let kind : pixel_bytes c.self.inside.config ≡ pixel_bytes f.config = ap (λ (v : BitmapValue). pixel_bytes v.picture.config) c.self.view_is ∙ ap pixel_bytes c.requires.config in
    λ k d lt.
    let column = get_or c.args.columns.now k d in
    let inside = run_inside column c.args.fy f.width f.height 1 (pixel_bytes f.config) (let below = c.requires.from_columns k d lt in omega arith) c.requires.from_row in
    rw (kind, c.width.ensures.value, c.bytes.ensures.len) (omega (arith, inside))

pub write_columns-requires-clause-room : goal.write_columns-requires-clause-room
write_columns-requires-clause-room c =
    let s = c.self.inside in
    let n = pixel_bytes s.config in
    let wide : s.width ≡ c.args.self.now.picture.width = ap (λ (v : BitmapValue). v.picture.width) c.self.view_is in
    let high : s.height ≡ c.args.self.now.picture.height = ap (λ (v : BitmapValue). v.picture.height) c.self.view_is in
    let inside = run_inside c.args.x c.args.y s.width s.height (length c.args.columns.now) n (omega (arith, c.requires.columns)) (omega (arith, c.requires.row)) in
    let at = ap (λ r. (c.args.y * s.width + c.args.x) * r) c.pixel_bytes.ensures in
    omega (arith, at, inside, c.self.invariant.fits, ap length c.deref_mut.ensures.value)

pub returns : goal.returns
returns c =
    let s = c.self.inside in
    let f = c.args.from.now.picture in
    let n = pixel_bytes s.config in
    let piece = pixels_at f c.args.fy c.args.columns.now in
    let wide : s.width ≡ c.args.self.now.picture.width = ap (λ (v : BitmapValue). v.picture.width) c.self.view_is in
    let high : s.height ≡ c.args.self.now.picture.height = ap (λ (v : BitmapValue). v.picture.height) c.self.view_is in
    let kind : n ≡ pixel_bytes f.config = ap (λ (v : BitmapValue). pixel_bytes v.picture.config) c.self.view_is ∙ ap pixel_bytes c.requires.config in
    let inside = run_inside c.args.x c.args.y s.width s.height (length c.args.columns.now) n (omega (arith, c.requires.columns)) (omega (arith, c.requires.row)) in
    let len : length piece ≡ length c.args.columns.now * n =
    length-pieces (λ x. pixel_at f x c.args.fy) n c.args.columns.now (λ k d lt.
    let column = get_or c.args.columns.now k d in
    let room = run_inside column c.args.fy f.width f.height 1 (pixel_bytes f.config) (let below = c.requires.from_columns k d lt in omega arith) c.requires.from_row in
    length-piece f.bytes (pixel_place f column c.args.fy) (pixel_bytes f.config) (rw (sym (ap length c.bytes.ensures.value) ∙ c.bytes.ensures.len) (omega (arith, room))) ∙ sym kind) in
    let is : c.write_columns.new.memory ≡ overwritten s.memory.items ((c.args.y * s.width + c.args.x) * n) piece =
    c.write_columns.ensures ∙ (λ i. overwritten (c.deref_mut.ensures.value i) ((c.args.y * s.width + c.args.x) * c.pixel_bytes.ensures i)
    (flat_map (λ x. take (kind i) (drop ((c.args.fy * c.width.ensures.value i + x) * kind i) (c.bytes.ensures.value i))) c.args.columns.now)) in
    view-written s c.write_columns.new.memory piece ((c.args.y * s.width + c.args.x) * n) c.self.invariant is (rw len inside)
    ∙ ap (λ (v : BitmapValue). with_piece v (pixel_place v.picture c.args.x c.args.y) piece) c.self.view_is
