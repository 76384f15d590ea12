use Rattle.std.proofs.Common.{◌+◌, ◌++◌, length, not, Err, refl, sym, ap, subst, ◌∙◌}
use Rattle.journal_lines.specs.Lines.{line_of}
use Rattle.journal_lines.specs.Journal.{Lacks}
use Rattle.journal_lines.specs.Replay.{ReplayState}
use Rattle.journal_lines.specs.declared.lines.JournalFault.TheVariants.{BadLine}
use Rattle.journal_lines.proofs.Pieces.{none_of, good_line, bad_line}
use Rattle.journal_lines.proofs.replay.Replay.end_line.Goals as goal

pub returns-then-is_none-clause-tells : goal.returns-then-is_none-clause-tells
returns-then-is_none-clause-tells c = (
  refl,
  λ more.
      bad_line c.args.self.now c.args.front.now c.line_with-line.result (none_of c.line_with-line.result (c.is_none.ensures ∙ ap not c.if-is_none.true)) c.requires.good c.requires.after_header
      (subst (λ (s : ReplayState). Lacks 10 s.begun) c.self.view_is c.self.invariant.begun) c.requires.lacks
      (c.line_with-line.ensures.line ∙ ap (λ (s : ReplayState). line_of (s.begun ++ c.args.front.now)) c.self.view_is) more
      ∙ ap (λ (s : ReplayState). Err (BadLine s.number)) (sym c.self.view_is),
)

pub returns-clause-tells : goal.returns-clause-tells
returns-clause-tells c =
    good_line c.args.self.now (record { read = c.self.inside.read + (length c.args.front.now + 1); header_read = c.self.inside.header_read; number = c.self.inside.number + 1; begun = c.line_with-line.new.begun; fault = c.self.inside.fault }) c.args.front.now c.line_with-line.result
    (c.is_none.ensures ∙ ap not c.if-is_none.false) c.requires.good c.requires.after_header
    (subst (λ (s : ReplayState). Lacks 10 s.begun) c.self.view_is c.self.invariant.begun) c.requires.lacks
    (c.line_with-line.ensures.line ∙ ap (λ (s : ReplayState). line_of (s.begun ++ c.args.front.now)) c.self.view_is)
    (ap (λ (s : ReplayState). s.fault) c.self.view_is) (ap (λ (s : ReplayState). s.header_read) c.self.view_is) (ap (λ (s : ReplayState). s.number + 1) c.self.view_is) c.line_with-line.ensures.clear
