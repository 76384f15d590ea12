use Rattle.std.proofs.Common.{◌+◌, ◌*◌, length, mul_comm, sym, ap, subst, ◌∙◌, Ok, arith, List, ℕ}
use Rattle.bitmap_kind.specs.Picture.{BitmapValue}
use Rattle.picture_rows.specs.RowsLeft.{RowStep}
use Rattle.image_format.specs.inside.Rows.{rows_by}
use Rattle.image_format.specs.inside.Filled.{IsFilled}
use Rattle.image_format.proofs.Filling.{next_rest, rows_done, fills, keeps_twice}
use Rattle.image_format.proofs.raster.put_rows.Goals as goal

pub rows-preserved : goal.rows-preserved
rows-preserved c =
    let before = c.rows.invariant in
    let into = c.next_row.new.into in
    let step = subst (λ b. RowStep (rows_by c.rows.rows) (Ok b) into (rows_by c.next_row.new.self)) c.if-branch.true c.in_ok-next_row.ensures in
    let next = next_rest (rows_by c.args.rows.now) (rows_by c.rows.rows) (rows_by c.next_row.new.self) c.rows.y into before.left step in
    record {
      left = next.0;
      below = omega (arith, next.1);
      shape = keeps_twice c.args.bitmap.now c.rows.bitmap c.put_row.new.bitmap before.shape c.put_row.ensures.shape;
      filled = subst (λ (l : List ℕ). IsFilled c.put_row.new.bitmap.picture (c.rows.y + 1) l) (sym next.2) (c.put_row.ensures.filled _ before.filled);
      row = c.next_row.auto.into ∙ before.row;
    }

pub returns-clause-pixels : goal.returns-clause-pixels
returns-clause-pixels c =
    let before = c.rows.invariant in
    let old = c.args.bitmap.now.picture in
    let step = subst (λ b. RowStep (rows_by c.rows.rows) (Ok b) c.next_row.new.into (rows_by c.next_row.new.self)) c.if-branch.false c.in_ok-next_row.ensures in
    let done = rows_done old.height c.rows.y (rows_by c.args.rows.now) (rows_by c.rows.rows) c.requires.count before.left before.below step.0 step.1 in
    ap length (sym done.2)
    ∙ before.filled.size
    ∙ ap (λ n. 4 * (n * c.rows.bitmap.picture.width)) done.1
    ∙ ap (λ (v : BitmapValue). 4 * (old.height * v.picture.width)) before.shape
    ∙ ap (λ n. 4 * n) (mul_comm old.height old.width)

pub returns-clause-fills : goal.returns-clause-fills
returns-clause-fills c =
    let before = c.rows.invariant in
    let step = subst (λ b. RowStep (rows_by c.rows.rows) (Ok b) c.next_row.new.into (rows_by c.next_row.new.self)) c.if-branch.false c.in_ok-next_row.ensures in
    let done = rows_done c.args.bitmap.now.picture.height c.rows.y (rows_by c.args.rows.now) (rows_by c.rows.rows) c.requires.count before.left before.below step.0 step.1 in
    (done.0, fills c.args.bitmap.now c.rows.bitmap c.rows.y _ _ before.shape before.filled (done.1 ∙ sym (ap (λ (v : BitmapValue). v.picture.height) before.shape)) done.2)
