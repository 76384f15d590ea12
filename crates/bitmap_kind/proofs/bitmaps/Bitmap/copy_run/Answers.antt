use Rattle.std.proofs.Common.{◌≡◌, ◌+◌, ◌*◌, length, sym, ap, ◌∙◌, arith}
use Rattle.bitmap_kind.specs.Stored.{pixel_bytes, overwritten}
use Rattle.bitmap_kind.specs.Picture.{BitmapValue, pixel_place, run_at, with_piece}
use Rattle.bitmap_kind.specs.Places.{run_inside}
use Rattle.bitmap_kind.proofs.Views.{view-written}
use Rattle.bitmap_kind.proofs.bitmaps.Bitmap.copy_run.Goals as goal

pub write_bytes-requires : goal.write_bytes-requires
write_bytes-requires c =
    let s = c.self.inside in
    let f = c.args.from.now.picture in
    let n = pixel_bytes s.config in
    let wide : s.width ≡ c.args.self.now.picture.width = ap (λ (v : BitmapValue). v.picture.width) c.self.view_is in
    let high : s.height ≡ c.args.self.now.picture.height = ap (λ (v : BitmapValue). v.picture.height) c.self.view_is in
    let kind : n ≡ pixel_bytes f.config = ap (λ (v : BitmapValue). pixel_bytes v.picture.config) c.self.view_is ∙ ap pixel_bytes c.requires.config in
    let inside = run_inside c.args.x c.args.y s.width s.height c.args.count n (omega (arith, c.requires.columns)) (omega (arith, c.requires.row)) in
    let at = ap (λ r. (c.args.y * s.width + c.args.x) * r) c.pixel_bytes.ensures in
    let len = c.run.ensures.len ∙ ap (λ r. c.args.count * r) (sym kind) in
    omega (arith, at, len, inside, c.self.invariant.fits, ap length c.deref_mut.ensures.value)

pub returns : goal.returns
returns c =
    let s = c.self.inside in
    let f = c.args.from.now.picture in
    let n = pixel_bytes s.config in
    let piece = run_at f c.args.fx c.args.fy c.args.count in
    let wide : s.width ≡ c.args.self.now.picture.width = ap (λ (v : BitmapValue). v.picture.width) c.self.view_is in
    let high : s.height ≡ c.args.self.now.picture.height = ap (λ (v : BitmapValue). v.picture.height) c.self.view_is in
    let kind : n ≡ pixel_bytes f.config = ap (λ (v : BitmapValue). pixel_bytes v.picture.config) c.self.view_is ∙ ap pixel_bytes c.requires.config in
    let inside = run_inside c.args.x c.args.y s.width s.height c.args.count n (omega (arith, c.requires.columns)) (omega (arith, c.requires.row)) in
    let len : length piece ≡ c.args.count * n = ap length (sym c.run.ensures.value) ∙ c.run.ensures.len ∙ ap (λ r. c.args.count * r) (sym kind) in
    let is : c.write_bytes.new.memory ≡ overwritten s.memory.items ((c.args.y * s.width + c.args.x) * n) piece =
    c.write_bytes.ensures ∙ (λ i. overwritten (c.deref_mut.ensures.value i) ((c.args.y * s.width + c.args.x) * c.pixel_bytes.ensures i) (c.run.ensures.value i)) in
    view-written s c.write_bytes.new.memory piece ((c.args.y * s.width + c.args.x) * n) c.self.invariant is (rw len inside)
    ∙ ap (λ (v : BitmapValue). with_piece v (pixel_place v.picture c.args.x c.args.y) piece) c.self.view_is
