use Rattle.std.proofs.Common.{◌+◌, ◌<◌, ap, ◌∙◌, arith}
use Rattle.bitmap_kind.specs.Picture.{pixel_at, run_at}
use Rattle.transforms.specs.Axis.{axis_place}
use Rattle.transforms.proofs.MoveSteps.{row_copied, run-pixels, length-run}
use Rattle.transforms.proofs.moves.move_run.Goals as goal

pub loop-y-preserved : goal.loop-y-preserved
loop-y-preserved c =
    let source = c.args.source.now.picture in
    let old = c.args.target.now in
    let y = c.loop-y.y in
    let down : y < old.picture.height = omega (arith, c.loop-y-test.true, c.height-y-end.ensures.value) in
    let from : c.place.result < source.height = omega (arith, c.place.ensures, c.requires.rows.inside y down) in
    row_copied source old c.loop-y.target c.copy_run.new.self c.args.x c.args.count y (λ i. c.args.first + i) (axis_place c.args.rows) (run_at source c.args.first c.place.result c.args.count)
    c.loop-y.invariant c.requires.target c.requires.config c.requires.columns down
    (length-run source c.args.first c.place.result c.args.count c.requires.source c.requires.from_columns from)
    c.copy_run.ensures
    (λ i lt. run-pixels source c.args.first c.place.result c.args.count i lt ∙ ap (λ b. pixel_at source (c.args.first + i) b) c.place.ensures)
