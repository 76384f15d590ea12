use Rattle.std.proofs.Common.{◌≡◌, ◌+◌, ◌*◌, length, ap, ◌∙◌, arith, rules}
use Rattle.bitmap_kind.specs.Stored.{pixel_bytes, stored, overwritten}
use Rattle.bitmap_kind.specs.Picture.{BitmapValue, pixel_place}
use Rattle.bitmap_kind.proofs.Packing.{length-stored}
use Rattle.bitmap_kind.specs.Places.{run_inside}
use Rattle.bitmap_kind.proofs.Views.{view-written}
use Rattle.bitmap_kind.proofs.bitmaps.Bitmap.put_pixel.Goals as goal

pub returns : goal.returns
returns c =
    let s = c.self.inside in
    let at = (c.args.y * s.width + c.args.x) * pixel_bytes s.config in
    let piece = stored s.config c.args.rgba in
    let wide : s.width ≡ c.args.self.now.picture.width = ap (λ (v : BitmapValue). v.picture.width) c.self.view_is in
    let high : s.height ≡ c.args.self.now.picture.height = ap (λ (v : BitmapValue). v.picture.height) c.self.view_is in
    let size : length piece ≡ 1 * pixel_bytes s.config = length-stored s.config c.args.rgba 1 (search rules) in
    let is : c.write_pixels.new.memory ≡ overwritten s.memory.items at piece = c.write_pixels.ensures ∙ (λ i. overwritten (c.deref_mut.ensures.value i) ((c.args.y * s.width + c.args.x) * c.pixel_bytes.ensures i) piece) in
    view-written s c.write_pixels.new.memory piece at c.self.invariant is (rw size (run_inside c.args.x c.args.y s.width s.height 1 (pixel_bytes s.config) (omega (arith, c.requires.column)) (omega (arith, c.requires.row))))
    ∙ ap (λ (v : BitmapValue). record v { picture = record v.picture { bytes = overwritten v.picture.bytes (pixel_place v.picture c.args.x c.args.y) (stored v.picture.config c.args.rgba) } }) c.self.view_is
