use Rattle.std.proofs.Common.{◌≡◌, ℕ, ◌<◌, List, ap, ◌∙◌, arith}
use Rattle.bitmap_kind.specs.Picture.{pixel_at}
use Rattle.transforms.specs.Sizes.{source_column, source_row}
use Rattle.transforms.specs.Moved.{pixels_by}
use Rattle.transforms.proofs.Wholes.{all_moved, same_pixels, with_pixels}
use Rattle.transforms.specs.Axis.{axis_place}
use Rattle.transforms.proofs.moves.transform.Goals as goal

pub returns : goal.returns
returns c =
    let source = c.args.source.now.picture in
    let old = c.args.target.now in
    let done = c.move_pixels.ensures in
    let W = c.args.wanted.0 in
    let H = c.args.wanted.1 in
    let column : ℕ → ℕ = source_column source.width source.height c.args.transform W H in
    let row : ℕ → ℕ = source_row source.width source.height c.args.transform W H in
    let column_is : (x : ℕ) → x < old.picture.width → axis_place c.axes.result.0 x ≡ column x =
    λ x lt. c.axes.ensures.columns.same x (omega (arith, c.width-2.ensures.value)) ∙ (λ i. source_column (c.width.ensures.value i) (c.height.ensures.value i) c.args.transform W H x) in
    let row_is : (y : ℕ) → y < old.picture.height → axis_place c.axes.result.1 y ≡ row y =
    λ y lt. c.axes.ensures.rows.same y (omega (arith, c.height-2.ensures.value)) ∙ (λ i. source_row (c.width.ensures.value i) (c.height.ensures.value i) c.args.transform W H y) in
    let bytes : c.move_pixels.new.target.picture.bytes ≡ pixels_by old.picture.width old.picture.height (λ x y. pixel_at source (column x) (row y)) =
    all_moved source old c.move_pixels.new.target (axis_place c.axes.result.0) (axis_place c.axes.result.1) (record { len = c.width-2.ensures.len }) done
    ∙ same_pixels old.picture.width old.picture.height (λ x y. pixel_at source (axis_place c.axes.result.0 x) (axis_place c.axes.result.1 y)) (λ x y. pixel_at source (column x) (row y))
    (λ x y across down i. pixel_at source (column_is x across i) (row_is y down i)) in
    done.shape
    ∙ ap (λ (l : List ℕ). record old { picture = record old.picture { bytes = l } }) bytes
    ∙ (λ i. with_pixels old (c.requires.size i) (c.requires.config i) (λ x y. pixel_at source (column x) (row y)))
