use Rattle.std.proofs.Common.{◌≡◌, ℕ, ◌+◌, ◌≤◌, length, length-append, length-take, length-drop, drop, subst, get_or, refl, ap, ◌∙◌, arith}
use Rattle.bitmap_kind.specs.Picture.{BitmapValue}
use Rattle.transforms.specs.Axis.{axis_place}
use Rattle.transforms.specs.Steps.{MovesColumns}
use Rattle.transforms.proofs.MoveSteps.{columns_moved}
use Rattle.transforms.proofs.moves.move_pixels.Goals as goal

pub loop-x-preserved : goal.loop-x-preserved
loop-x-preserved c =
    let source = c.args.source.now.picture in
    let old = c.args.target.now in
    let mid = c.loop-x.target in
    let new = c.move_columns.new.target in
    let x = c.loop-x.x in
    let count = c.min-count.result in
    let piece = c.fill.new.into in
    let high : mid.picture.height ≡ old.picture.height = ap (λ (v : BitmapValue). v.picture.height) c.loop-x.invariant.done.shape in
    let room : count ≤ length c.loop-x.places = omega (arith, c.min-count.ensures, c.min-count.array_long) in
    let len : length piece ≡ count = c.fill.auto.into ∙ omega (arith, length-take {A = ℕ}) in
    let part : ℕ → ℕ = λ i. get_or piece i 0 in
    let rows : ℕ → Type 0 = λ r. MovesColumns source mid new x (length piece) r part (axis_place c.args.rows) in
    let more : MovesColumns source mid new x (length piece) old.picture.height part (axis_place c.args.rows) = subst rows high c.move_columns.ensures in
    let all : ℕ → Type 0 = λ k. MovesColumns source old new 0 (x + k) old.picture.height (axis_place c.args.columns) (axis_place c.args.rows) in
    record {
      size = length-append piece (drop count c.loop-x.places) ∙ omega (arith, length-drop {A = ℕ}, c.loop-x.invariant.size);
      within = omega (arith, c.loop-x-test.true, c.min-count.ensures);
      done = subst all len (columns_moved source old mid new x (length piece) old.picture.height (axis_place c.args.columns) part (axis_place c.args.rows) refl c.loop-x.invariant.done more c.fill.ensures);
    }
