use Rattle.printed_lines.proofs.Texts.{err_is, unwritten}
use Rattle.printed_lines.proofs.lines.write_shown_line.Goals as goal

pub returns-in_err-text : goal.returns-in_err-text
returns-in_err-text g c = unwritten (err_is c.from_residual.result c.from_residual.ensures.1)
