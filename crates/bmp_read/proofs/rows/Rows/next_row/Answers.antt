use Rattle.std.proofs.Common.{◌≡◌, ◌<◌, true, sym, ◌∙◌, arith, rules}
use Rattle.bmp_read.specs.Raster.{has_raster}
use Rattle.bmp_read.proofs.RowSteps.{row_more}
use Rattle.bmp_read.proofs.rows.Rows.next_row.Goals as goal

pub returns-clause-step : goal.returns-clause-step
returns-clause-step c =
    let s = c.self.inside in
    let whole : has_raster s.head s.text.now ≡ true = search rules in
    let some : 0 < s.height_left = omega arith in
    sym c.self.view_is ∙ row_more s.head s.text.now s.height_left c.stored_index.result c.stored_row-row.result.now c.write_row.new.into whole some c.stored_index.ensures.value c.stored_row-row.ensures.value c.write_row.ensures
