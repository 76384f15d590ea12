use Rattle.std.proofs.Common.{◌≡◌, ◌*◌, take, drop, ap, ◌∙◌, arith}
use Rattle.bitmap_kind.specs.Stored.{pixel_bytes}
use Rattle.bitmap_kind.specs.Picture.{pixel_place, with_piece}
use Rattle.bitmap_kind.proofs.bitmaps.Bitmap.copy_pixel.Goals as goal

pub returns : goal.returns
returns c =
    let f = c.args.from.now.picture in
    let v = c.args.self.now in
    let one : 1 * pixel_bytes f.config ≡ pixel_bytes f.config = omega arith in
    c.copy_run.ensures ∙ ap (λ n. with_piece v (pixel_place v.picture c.args.x c.args.y) (take n (drop (pixel_place f c.args.fx c.args.fy) f.bytes))) one
