use Rattle.std.proofs.Common.{◌≡◌, ◌+◌, ◌-◌, ◌*◌, ◌≤◌, length, take, drop, sym, ap, ◌∙◌, arith}
use Rattle.bitmap_kind.specs.Stored.{pixel_bytes}
use Rattle.bitmap_kind.specs.Picture.{pixel_place, run_at}
use Rattle.bitmap_kind.specs.Places.{run_inside, length-piece}
use Rattle.bitmap_kind.proofs.bitmaps.Bitmap.run.Goals as goal

pub slice_bounds-result-end : goal.slice_bounds-result-end
slice_bounds-result-end c =
    let v = c.args.self.now.picture in
    let size : c.pixel_bytes-size.result ≡ pixel_bytes v.config = c.pixel_bytes-size.ensures ∙ ap pixel_bytes c.config.ensures in
    let inside : (c.args.y * c.width.result + c.args.x) * c.pixel_bytes-size.result + c.args.count * c.pixel_bytes-size.result ≤ length c.bytes.result.now =
    rw (size, c.width.ensures.value, c.bytes.ensures.len) (run_inside c.args.x c.args.y v.width v.height c.args.count (pixel_bytes v.config) c.requires.columns c.requires.row) in
    inside

pub returns : goal.returns
returns c =
    let v = c.args.self.now.picture in
    let size : c.pixel_bytes-size.result ≡ pixel_bytes v.config = c.pixel_bytes-size.ensures ∙ ap pixel_bytes c.config.ensures in
    let at = (c.args.y * c.width.result + c.args.x) * c.pixel_bytes-size.result in
    let k = c.args.count * c.pixel_bytes-size.result in
    let long : at + k - at ≡ k = omega arith in
    let value : take (at + k - at) (drop at c.bytes.result.now) ≡ run_at v c.args.x c.args.y c.args.count =
    ap (λ j. take j (drop at c.bytes.result.now)) long ∙ (λ i. take (c.args.count * size i) (drop ((c.args.y * c.width.ensures.value i + c.args.x) * size i) (c.bytes.ensures.value i))) in
    let inside : pixel_place v c.args.x c.args.y + c.args.count * pixel_bytes v.config ≤ length v.bytes =
    rw (sym (ap length c.bytes.ensures.value) ∙ c.bytes.ensures.len) (run_inside c.args.x c.args.y v.width v.height c.args.count (pixel_bytes v.config) c.requires.columns c.requires.row) in
    record { value = value; len = ap length value ∙ length-piece v.bytes (pixel_place v c.args.x c.args.y) (c.args.count * pixel_bytes v.config) inside }
