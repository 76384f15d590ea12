use Rattle.std.proofs.Common.{◌≡◌, ◌≤◌, ◌*◌, length, take, drop}
use Rattle.std.specs.List.{concat}
use Rattle.image_format.specs.inside.Rows.{rows_by}
use Rattle.image_format.specs.inside.Filled.{IsSampled}
use Rattle.image_format.specs.Answers.{KeepsShape}
use Rattle.image_format.proofs.Filling.{rest_of}
use Rattle.image_format.proofs.raster.put_sampled_rows.Given as goal

abbrev pub invariant-rows : goal.invariant-rows
invariant-rows l = record {
  left : rows_by l.rows ≡ rest_of (rows_by l.fn.rows) l.boxes.pushed;
  below : l.boxes.pushed ≤ length (rows_by l.fn.rows).rows;
  boxes : l.boxes ≡ record l.fn.boxes { pushed = l.boxes.pushed; given = l.boxes.given; full = l.boxes.full; sums = l.boxes.sums };
  given : l.y ≡ l.boxes.given;
  shape : KeepsShape l.fn.bitmap l.bitmap;
  sampled : IsSampled l.boxes l.bitmap.picture (concat (take l.boxes.pushed (rows_by l.fn.rows).rows)) (concat (drop l.boxes.pushed (rows_by l.fn.rows).rows));
  row : length l.row ≡ 4 * l.fn.boxes.width;
}

abbrev pub decreases-rows : goal.decreases-rows
decreases-rows l = length (rows_by l.rows).rows
