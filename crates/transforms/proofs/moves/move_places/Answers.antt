use Rattle.std.proofs.Common.{◌≡◌, ℕ, ◌<◌, length, get_or, ap, ◌∙◌, arith}
use Rattle.bitmap_kind.specs.Stored.{pixel_bytes}
use Rattle.bitmap_kind.specs.Picture.{pixel_at, pixels_at}
use Rattle.transforms.specs.Axis.{axis_place}
use Rattle.bitmap_kind.specs.Places.{length-pieces}
use Rattle.transforms.proofs.Pieces.{piece-flat_map}
use Rattle.transforms.proofs.MoveSteps.{row_copied, length-pixel}
use Rattle.transforms.proofs.moves.move_places.Goals as goal

pub loop-y-preserved : goal.loop-y-preserved
loop-y-preserved c =
    let source = c.args.source.now.picture in
    let old = c.args.target.now in
    let places = c.args.places.now in
    let y = c.loop-y.y in
    let n = pixel_bytes source.config in
    let down : y < old.picture.height = omega (arith, c.loop-y-test.true, c.height-y-end.ensures.value) in
    let from : c.place.result < source.height = omega (arith, c.place.ensures, c.requires.rows.inside y down) in
    let each : (k d : ℕ) → k < length places → length (pixel_at source (get_or places k d) c.place.result) ≡ n =
    λ k d lt. length-pixel source (get_or places k d) c.place.result c.requires.source (c.requires.from_columns k d lt) from in
    row_copied source old c.loop-y.target c.copy_columns.new.self c.args.x (length places) y (λ i. get_or places i 0) (axis_place c.args.rows) (pixels_at source c.place.result places)
    c.loop-y.invariant c.requires.target c.requires.config c.requires.columns down
    (length-pieces (λ x. pixel_at source x c.place.result) n places each)
    c.copy_columns.ensures
    (λ i lt. piece-flat_map (λ x. pixel_at source x c.place.result) n places i (λ k below. each k 0 below) lt ∙ ap (λ b. pixel_at source (get_or places i 0) b) c.place.ensures)
