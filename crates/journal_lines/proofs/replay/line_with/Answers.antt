use Rattle.std.proofs.Common.{◌++◌, ap, ◌∙◌}
use Rattle.journal_lines.specs.Lines.{line_of}
use Rattle.journal_lines.proofs.Pieces.{line_of-cut}
use Rattle.journal_lines.proofs.replay.line_with.Goals as goal

pub returns-clause-line : goal.returns-clause-line
returns-clause-line c = c.read_line-line.ensures ∙ ap line_of (c.bytes-2.ensures.bytes ∙ c.fill.ensures) ∙ line_of-cut (c.args.begun.now ++ c.args.front.now)
