use Rattle.std.proofs.Common.{◌≡◌, ◌≤◌, ◌*◌, length, take}
use Rattle.std.specs.List.{concat}
use Rattle.image_format.specs.inside.Rows.{rows_by}
use Rattle.image_format.specs.inside.Filled.{IsFilled}
use Rattle.image_format.specs.Answers.{KeepsShape}
use Rattle.image_format.proofs.Filling.{rest_of}
use Rattle.image_format.proofs.raster.put_rows.Given as goal

abbrev pub invariant-rows : goal.invariant-rows
invariant-rows l = record {
  left : rows_by l.rows ≡ rest_of (rows_by l.fn.rows) l.y;
  below : l.y ≤ length (rows_by l.fn.rows).rows;
  shape : KeepsShape l.fn.bitmap l.bitmap;
  filled : IsFilled l.bitmap.picture l.y (concat (take l.y (rows_by l.fn.rows).rows));
  row : length l.row ≡ 4 * l.fn.bitmap.picture.width;
}

abbrev pub decreases-rows : goal.decreases-rows
decreases-rows l = length (rows_by l.rows).rows
