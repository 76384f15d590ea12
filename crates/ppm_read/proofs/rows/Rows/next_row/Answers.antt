use Rattle.ppm_read.specs.declared.fault.PpmFault.{PpmFault}
use Rattle.std.proofs.Common.{◌≡◌, sym, ap, ◌∙◌, arith}
use Rattle.picture_rows.specs.RowsLeft.{RowsLeft}
use Rattle.ppm_read.proofs.RowSteps.{width-rows_of}
use Rattle.ppm_read.proofs.rows.Rows.next_row.Goals as goal

pub read_row-requires-clause-into : goal.read_row-requires-clause-into
read_row-requires-clause-into c =
    let s = c.self.inside in
    let wide : s.head.width ≡ c.args.self.now.width = sym (width-rows_of s.head s.height_left s.text.now) ∙ ap (λ (v : RowsLeft PpmFault). v.width) c.self.view_is in
    omega (arith, c.requires)
