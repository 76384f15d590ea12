use Rattle.std.proofs.Common.{◌+◌, ◌++◌, length, take, sym, ap, subst, ◌∙◌, arith}
use Rattle.journal_lines.specs.Journal.{Lacks}
use Rattle.journal_lines.specs.Replay.{ReplayState}
use Rattle.journal_lines.proofs.Pieces.{begun_more, lacks-take}
use Rattle.journal_lines.proofs.Text.{lacks-append}
use Rattle.journal_lines.proofs.replay.Replay.go_on.Goals as goal

pub invariant_of-self : goal.invariant_of-self
invariant_of-self c = record {
  header = c.self.invariant.header;
  in_header = λ early. absurd (omega (arith, early, ap (λ (s : ReplayState). s.header_read) c.self.view_is, c.requires.after_header));
  counted = omega (arith, c.self.invariant.counted);
  begun = subst (Lacks 10) (sym c.fill.ensures) (lacks-take 141 (c.self.inside.begun ++ c.args.left.now) (lacks-append 10 c.self.inside.begun c.args.left.now c.self.invariant.begun c.requires.lacks));
  size = omega (arith, c.requires.size, ap (λ (s : ReplayState). s.read) c.self.view_is);
}

pub returns-clause-same : goal.returns-clause-same
returns-clause-same c =
    begun_more c.args.self.now (record { read = c.self.inside.read + length c.args.left.now; header_read = c.self.inside.header_read; number = c.self.inside.number; begun = c.fill.new.self; fault = c.self.inside.fault }) c.args.left.now
    c.requires.good c.requires.after_header
    (ap (λ (s : ReplayState). s.fault) c.self.view_is) (ap (λ (s : ReplayState). s.header_read) c.self.view_is) (ap (λ (s : ReplayState). s.number) c.self.view_is)
    (c.fill.ensures ∙ ap (λ (s : ReplayState). take 141 (s.begun ++ c.args.left.now)) c.self.view_is)
    (subst (λ (s : ReplayState). Lacks 10 s.begun) c.self.view_is c.self.invariant.begun) c.requires.lacks
